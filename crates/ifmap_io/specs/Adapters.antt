-- An adapter over a reader or a writer as contracts see it.
use Rattle.std.specs.Prelude.{ℕ, refl}
use Rattle.std.specs.Coded.{Coded, code_by, coded×, coded_ℕ}

-- what it reads from or writes to, and its count of faults
pub record Adapter (R : Type 0) : Type 0 where
  pub inner : R
  pub faults : ℕ

-- an adapter is stored as the pair of its fields
abbrev pub adapter_code : {R : Type 0} → Coded R → Coded (Adapter R)
adapter_code {R} inner =
    code_by
    (R × ℕ)
    (coded× inner coded_ℕ)
    (λ adapter. (adapter.inner, adapter.faults))
    (λ pair. record { inner = pair.0; faults = pair.1 })
    (λ _. refl)
