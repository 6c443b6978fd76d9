-- Names are equal or not.
use Rattle.std.proofs.Common.{◌≡◌, ℕ, List, ap}
use Rattle.ifmap_lemmas.specs.Deciding.{Decided, decided_both, same_or_not, decided_by}
use Rattle.ifmap_elem.specs.declared.elements.Name.{Name}

abbrev pub BothSame : List ℕ → List ℕ → List ℕ → List ℕ → Type 0
BothSame a b c d = (a ≡ b) × (c ≡ d)

pub both_or_not : (a b c d : List ℕ) → Decided (BothSame a b c d)
both_or_not a b c d = decided_both (same_or_not a b) (same_or_not c d)

pub name_or_not : (n o : Name) → Decided (n ≡ o)
name_or_not n o =
    decided_by
    (λ (h : BothSame n.space o.space n.local o.local). λ i. record { space = h.0 i; local = h.1 i })
    (λ e. (ap (λ (m : Name). m.space) e, ap (λ (m : Name). m.local) e))
    (both_or_not n.space o.space n.local o.local)
