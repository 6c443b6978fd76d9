-- A wire as contracts see it.
use Rattle.std.specs.Prelude.{ℕ, Bool, List, Option, refl}
use Rattle.std.specs.Io.KnownBytes.{prepend_known}
use Rattle.std.specs.Coded.{Coded, code_by, coded×, coded_list, coded_ℕ, coded_bool}

-- its link, the bytes that it took from the link and has not handed out, and whether it is spent
pub record Wired (L : Type 0) : Type 0 where
  pub link : L
  pub taken : List ℕ
  pub spent : Bool

-- a wire is stored as its fields
abbrev pub wired_code : {L : Type 0} → Coded L → Coded (Wired L)
wired_code {L} link =
    code_by
    (L × (List ℕ × Bool))
    (coded× link (coded× (coded_list coded_ℕ) coded_bool))
    (λ wire. (wire.link, (wire.taken, wire.spent)))
    (λ parts. record { link = parts.0; taken = parts.1.0; spent = parts.1.1 })
    (λ _. refl)

-- a wire with what is told of its link: what it has left and what its link holds, each where it is told, how often its link has failed
-- to read and to write, and whether it is spent
pub record WireSeen : Type 0 where
  pub left : Option (List ℕ)
  pub held : Option (List ℕ)
  pub read_faults : ℕ
  pub write_faults : ℕ
  pub spent : Bool

-- a wire by the four meanings of its link
abbrev pub wire_seen : {L : Type 0} → (L → Option (List ℕ)) → (L → Option (List ℕ)) → (L → ℕ) → (L → ℕ) → Wired L → WireSeen
wire_seen left held reading writing wire = record {
  left = prepend_known wire.taken (left wire.link);
  held = held wire.link;
  read_faults = reading wire.link;
  write_faults = writing wire.link;
  spent = wire.spent;
}
