-- Flips: links that two graphs do not share.
use Rattle.std.specs.Prelude.{◌≡◌, ℕ, Bool, true, false, List, Contains, [], ◌∷◌, ◌++◌, ◌⊎◌}
use Rattle.std.proofs.Common.{inl, inr, sym, ap, subst, ◌∙◌}
use Rattle.std.proofs.lemmas.List.Elements.{Contains-push_cases}
use Rattle.ifmap_region.specs.declared.flips.Flip.{Flip}

-- the flip joins two numbers, whichever end is `a`
abbrev pub Joins : Flip → ℕ → ℕ → Type 0
Joins flip v w = ((flip.a ≡ v) × (flip.b ≡ w)) ⊎ ((flip.a ≡ w) × (flip.b ≡ v))

-- some flip of the kind, added or removed, joins two numbers
abbrev pub IsFlipped : List Flip → Bool → ℕ → ℕ → Type 0
IsFlipped flips added v w = (flip : Flip) × Contains flips flip × (flip.added ≡ added) × Joins flip v w

-- some flip of the kind has the number as an end
abbrev pub IsEnd : List Flip → Bool → ℕ → Type 0
IsEnd flips added v = (w : ℕ) × IsFlipped flips added v w

-- the links, and those that were removed
abbrev pub WithRemoved : (ℕ → ℕ → Type 0) → List Flip → ℕ → ℕ → Type 0
WithRemoved links flips v w = links v w ⊎ IsFlipped flips false v w

-- the links that are both of one kind and of another
abbrev pub InBoth : (ℕ → ℕ → Type 0) → (ℕ → ℕ → Type 0) → ℕ → ℕ → Type 0
InBoth links others v w = links v w × others v w

-- the links that both graphs have: those of the new one but the added ones
abbrev pub Mid : (ℕ → ℕ → Type 0) → List Flip → ℕ → ℕ → Type 0
Mid new flips = InBoth new (λ v w. ¬ IsFlipped flips true v w)

-- the links of the old graph: the new ones with the flips undone
abbrev pub OldLinks : (ℕ → ℕ → Type 0) → List Flip → ℕ → ℕ → Type 0
OldLinks new flips = WithRemoved (Mid new flips) flips

-- what is flipped by the flips and one more is flipped by these, or by that one
pub flipped_cases : (flips : List Flip) (flip : Flip) (added : Bool) (v w : ℕ) → IsFlipped (flips ++ flip ∷ []) added v w
    → IsFlipped flips added v w ⊎ ((flip.added ≡ added) × Joins flip v w)
flipped_cases flips flip added v w h = elim (Contains-push_cases flips flip h.0 h.1) [
  | inl before ↦ inl (h.0, before, h.2, h.3)
  | inr e ↦ inr (ap (λ (f : Flip). f.added) e ∙ h.2, subst (λ (f : Flip). Joins f v w) (sym e) h.3)
]
