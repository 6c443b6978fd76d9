-- The numbers of marks.
use Rattle.std.proofs.Common.{◌≡◌, ℕ, true, false, Option, Some, None, List, [], ◌∷◌}
use Rattle.std.proofs.Common.{nat_eq, unwrap_or, refl, ap, ◌∙◌, sym, inl, inr, arith}
use Rattle.std.proofs.lemmas.Bool.{cases_Bool}
use Rattle.std.proofs.lemmas.Bool.Decides.{nat_tests}
use Rattle.std.proofs.lemmas.Option.{none-some}
use Rattle.ifmap_lemmas.specs.Having.{Has}
use Rattle.ifmap_region.specs.Marks.{AllMarked, mark_of, row_of}
use Rattle.ifmap_fresh.specs.Collected.{numbers_of}
use Rattle.ifmap_fresh.specs.laws.GatheringLaws.{row_has}

itself : (a b : ℕ) → b ≡ a → nat_eq a b ≡ true
itself a b e = grind (arith, nat_tests)

has_row : (es : List (ℕ × Option ℕ)) (v : ℕ) → Has (numbers_of es) v → (r : Option ℕ) × (row_of es v ≡ Some r)
has_row [] v h = absurd h
has_row (x ∷ xs) v h = elim (cases_Bool (nat_eq v x.0)) [
  | inl t ↦ (x.1, rw t refl)
  | inr t ↦ elim h [
    | inl e ↦ let q : false ≡ true = sym t ∙ itself v x.0 e in cc
    | inr k ↦ let r = has_row xs v k in (r.0, rw t r.1)
  ]
]

pub mark_has_number : (es : List (ℕ × Option ℕ)) (v k : ℕ) → mark_of es v ≡ Some k → Has (numbers_of es) v
mark_has_number es v k e = by (row_of es v) refl
  where
    by : (o : Option (Option ℕ)) → row_of es v ≡ o → Has (numbers_of es) v
    by None f = absurd (none-some k (sym (ap (λ o. unwrap_or o None) f) ∙ e))
    by (Some r) f = row_has es v r f

pub number_has_mark : (es : List (ℕ × Option ℕ)) → AllMarked es → (v : ℕ) → Has (numbers_of es) v → (k : ℕ) × (mark_of es v ≡ Some k)
number_has_mark es all v h = let r = has_row es v h in by r.0 r.1
  where
    by : (r : Option ℕ) → row_of es v ≡ Some r → (k : ℕ) × (mark_of es v ≡ Some k)
    by None f = absurd (all v f)
    by (Some k) f = (k, ap (λ o. unwrap_or o None) f)
