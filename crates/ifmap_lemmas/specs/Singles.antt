-- Decisions on what at most one thing is: whether there is one of which something else holds too.
use Rattle.std.proofs.Common.{◌≡◌, ◌≢◌, ℕ, List, [], Option, None, Some, inl, inr, refl, subst}
use Rattle.ifmap_lemmas.specs.Absent.{none_and_some, one_of}
use Rattle.ifmap_lemmas.specs.Deciding.{Decided, decided_not, same_or_not}

pub single_with : {X : Type 0} (P Q : X → Type 0) → ((x y : X) → P x → P y → x ≡ y) → Decided ((x : X) × P x) → ((x : X) → Decided (Q x))
    → Decided ((x : X) × P x × Q x)
single_with P Q single (inr fails) more = inr (λ t. fails (t.0, t.1))
single_with P Q single (inl p) more = elim (more p.0) [
  | inl q ↦ inl (p.0, p.1, q)
  | inr none ↦ inr (λ t. none (subst Q (single t.0 p.0 t.1 p.1) t.2))
]

-- whether an option has a value, and one of which something holds
pub given_or_none : {X : Type 0} (o : Option X) → Decided ((x : X) × (o ≡ Some x))
given_or_none None = inr (λ t. none_and_some None t.0 refl t.1)
given_or_none (Some x) = inl (x, refl)

pub value_with : {X : Type 0} (o : Option X) (Q : X → Type 0) → ((x : X) → Decided (Q x)) → Decided ((x : X) × (o ≡ Some x) × Q x)
value_with o Q more = single_with (λ x. o ≡ Some x) Q (one_of o) (given_or_none o) more

pub some_or_empty : (xs : List ℕ) → Decided (xs ≢ [])
some_or_empty xs = decided_not (same_or_not xs [])
