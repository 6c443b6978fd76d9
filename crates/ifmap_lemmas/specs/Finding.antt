-- What the first that passes tells of all.
use Rattle.std.proofs.Common.{◌≡◌, Bool, false, List, [], ◌∷◌, None, Some, inl, inr, true, subst}
use Rattle.std.proofs.lemmas.Bool.{cases_Bool}
use Rattle.std.specs.List.{AllByRecursion, find}

pub none_passes : {X : Type 0} (p : X → Bool) (xs : List X) → find p xs ≡ None → AllByRecursion (λ x. p x ≡ false) xs
none_passes p [] e = tt
none_passes p (x ∷ xs) e =
    elim (cases_Bool (p x)) [
      | inl hit ↦ let bad : Some x ≡ None = rw hit at e in cc
      | inr miss ↦ (miss, none_passes p xs (rw miss at e))
    ]

pub found_passes : {X : Type 0} (p : X → Bool) (xs : List X) (x : X) → find p xs ≡ Some x → p x ≡ true
found_passes p [] x e = cc
found_passes p (y ∷ ys) x e = elim (cases_Bool (p y)) [
  | inl hit ↦ let same : y ≡ x = cc (rw hit at e) in subst (λ z. p z ≡ true) same hit
  | inr miss ↦ found_passes p ys x (rw miss at e)
]
