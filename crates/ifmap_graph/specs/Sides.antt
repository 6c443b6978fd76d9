-- A list, and one that may take its place.
use Rattle.std.specs.Prelude.{List, Option, unwrap_or, refl}
use Rattle.std.specs.Coded.{Coded, code_by, coded×, coded_list, coded_option}

pub record Sides (T : Type 0) : Type 0 where
  pub now : List T
  pub draft : Option (List T)

abbrev pub sides_code : {T : Type 0} → Coded T → Coded (Sides T)
sides_code {T} t =
    code_by (List T × Option (List T)) (coded× (coded_list t) (coded_option (coded_list t))) (λ s. (s.now, s.draft))
    (λ p. record { now = p.0; draft = p.1 }) (λ _. refl)

-- the list, as it is
abbrev pub list_now : {T : Type 0} → Sides T → List T
list_now s = s.now

-- the list that is to come: the draft, where there is one
abbrev pub list_next : {T : Type 0} → Sides T → List T
list_next s = unwrap_or s.draft s.now
