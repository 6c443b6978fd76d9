-- Lists whose members are turned in place, one after the other.
use Rattle.std.proofs.Common.{◌≡◌, ℕ, zero, suc, ◌+◌, ◌<◌, List, [], ◌∷◌, ◌++◌, map, take, drop, length, get_or, slice_set, refl, ap, sym}
use Rattle.std.proofs.Common.{◌∙◌, arith, add-one}

module _ {X : Type 0} (f : X → X) where
  abbrev so_far : ℕ → List X → List X
  so_far i xs = map f (take i xs) ++ drop i xs

  stands : (xs : List X) (i : ℕ) (d : X) → i < length xs → get_or (so_far i xs) i d ≡ get_or xs i d
  stands [] i d l = absurd (omega (arith, l))
  stands (x ∷ xs) zero d l = refl
  stands (x ∷ xs) (suc i) d l = stands xs i d (omega (arith, l))

  turns : (xs : List X) (i : ℕ) (a : X) → i < length xs → slice_set (so_far i xs) i (f (get_or xs i a)) ≡ so_far (suc i) xs
  turns [] i a l = absurd (omega (arith, l))
  turns (x ∷ xs) zero a l = refl
  turns (x ∷ xs) (suc i) a l = ap (λ ys. f x ∷ ys) (turns xs i a (omega (arith, l)))

  -- the member at i is turned
  pub one_more : (xs ys : List X) (i : ℕ) (before after : X) → i < length xs → ys ≡ so_far i xs → before ≡ get_or ys i before
      → after ≡ f before → slice_set ys i after ≡ so_far (i + 1) xs
  one_more xs ys i before after l e b a =
      let here : before ≡ get_or xs i before = b ∙ ap (λ zs. get_or zs i before) e ∙ stands xs i before l in
      ap (λ zs. slice_set zs i after) e ∙ ap (slice_set (so_far i xs) i) (a ∙ ap f here) ∙ turns xs i before l
      ∙ ap (λ n. so_far n xs) (sym (add-one i))
