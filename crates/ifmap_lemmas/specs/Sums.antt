-- Sums over lists: the part that one member or two make, what a list makes in which one place is written, and what passes a test.
use Rattle.std.proofs.Common.{◌≡◌, ◌≢◌, ℕ, zero, suc, ◌+◌, ◌≤◌, Bool, cond, List, [], ◌∷◌, set, inl, inr, refl, sym, ap, ◌∙◌, arith}
use Rattle.std.proofs.lemmas.Bool.{cases_Bool}
use Rattle.std.proofs.lemmas.List.Sums.{sum_by-cons}
use Rattle.std.specs.List.{AllByRecursion, filter}
use Rattle.std.specs.Prelude.{sum_by}
use Rattle.ifmap_lemmas.specs.Having.{Has, has_all}
use mathlib.Core.Option.{some, some-injective, some-ne-none}
use lib.ListN.{get_elem?}

module _ {V : Type 0} where
  -- one place is written
  pub sum_set : (f : V → ℕ) (vs : List V) (i : ℕ) (v w : V) → get_elem? vs i ≡ some v → sum_by f (set vs i w) + f v ≡ sum_by f vs + f w
  sum_set f [] i v w e = absurd (some-ne-none v (sym e))
  sum_set f (x ∷ xs) zero v w e = let h : f x ≡ f v = ap f (some-injective x v e) in omega (arith, sum_by-cons f x xs, sum_by-cons f w xs)
  sum_set f (x ∷ xs) (suc i) v w e = omega (arith, sum_set f xs i v w e, sum_by-cons f x xs, sum_by-cons f x (set xs i w))

  -- what one member makes, or two
  pub one_within_sum : (f : V → ℕ) (vs : List V) (i : ℕ) (v : V) → get_elem? vs i ≡ some v → f v ≤ sum_by f vs
  one_within_sum f [] i v e = absurd (some-ne-none v (sym e))
  one_within_sum f (x ∷ xs) zero v e = let h : f x ≡ f v = ap f (some-injective x v e) in omega (arith, sum_by-cons f x xs)
  one_within_sum f (x ∷ xs) (suc i) v e = omega (arith, one_within_sum f xs i v e, sum_by-cons f x xs)

  pub two_within_sum : (f : V → ℕ) (vs : List V) (i j : ℕ) (v w : V) → i ≢ j → get_elem? vs i ≡ some v → get_elem? vs j ≡ some w
      → f v + f w ≤ sum_by f vs
  two_within_sum f [] i j v w n a b = absurd (some-ne-none v (sym a))
  two_within_sum f (x ∷ xs) zero zero v w n a b = absurd (n refl)
  two_within_sum f (x ∷ xs) zero (suc j) v w n a b =
      let h : f x ≡ f v = ap f (some-injective x v a) in omega (arith, one_within_sum f xs j w b, sum_by-cons f x xs)
  two_within_sum f (x ∷ xs) (suc i) zero v w n a b =
      let h : f x ≡ f w = ap f (some-injective x w b) in omega (arith, one_within_sum f xs i v a, sum_by-cons f x xs)
  two_within_sum f (x ∷ xs) (suc i) (suc j) v w n a b =
      omega (arith, two_within_sum f xs i j v w (λ e. n (ap suc e)) a b, sum_by-cons f x xs)

  -- what makes no more at each place makes no more of all
  pub sum_at_most : (f g : V → ℕ) (vs : List V) → ((i : ℕ) (v : V) → get_elem? vs i ≡ some v → f v ≤ g v) → sum_by f vs ≤ sum_by g vs
  sum_at_most f g [] h = omega arith
  sum_at_most f g (x ∷ xs) h =
      omega (arith, h 0 x refl, sum_at_most f g xs (λ i v e. h (suc i) v e), sum_by-cons f x xs, sum_by-cons g x xs)

  -- what the members weigh that pass a test is no more than a greater weight of these
  pub sum_passed : (p : V → Bool) (f g : V → ℕ) → ((v : V) → f v ≤ g v) → (vs : List V)
      → sum_by (λ v. cond (p v) (f v) 0) vs ≤ sum_by g (filter p vs)
  sum_passed p f g le [] = omega arith
  sum_passed p f g le (v ∷ vs) = elim (cases_Bool (p v)) [
    | inl hit ↦
        let here : cond (p v) (f v) 0 ≡ f v = ap (λ b. cond b (f v) 0) hit in
        let stays : filter p (v ∷ vs) ≡ v ∷ filter p vs = ap (λ b. cond b (v ∷ filter p vs) (filter p vs)) hit in
        omega (
          arith,
          le v,
          here,
          ap (sum_by g) stays,
          sum_passed p f g le vs,
          sum_by-cons (λ u. cond (p u) (f u) 0) v vs,
          sum_by-cons g v (filter p vs),
        )
    | inr miss ↦
        let here : cond (p v) (f v) 0 ≡ 0 = ap (λ b. cond b (f v) 0) miss in
        let goes : filter p (v ∷ vs) ≡ filter p vs = ap (λ b. cond b (v ∷ filter p vs) (filter p vs)) miss in
        omega (arith, here, ap (sum_by g) goes, sum_passed p f g le vs, sum_by-cons (λ u. cond (p u) (f u) 0) v vs)
  ]

  pub sum_one : (f : V → ℕ) (w : V) → sum_by f (w ∷ []) ≡ f w
  sum_one f w = sum_by-cons f w [] ∙ omega arith

-- the part of a sum that a member makes, and that each makes
pub member_within_sum : {X : Type 0} (f : X → ℕ) (xs : List X) (x : X) → Has xs x → f x ≤ sum_by f xs
member_within_sum f [] x h = absurd h
member_within_sum f (y ∷ ys) x (inl e) = let n : f y ≡ f x = ap f e in omega (arith, sum_by-cons f y ys, n)
member_within_sum f (y ∷ ys) x (inr h) = let n = member_within_sum f ys x h in omega (arith, sum_by-cons f y ys, n)

pub each_within_sum : {X : Type 0} (f : X → ℕ) (xs : List X) → AllByRecursion (λ x. f x ≤ sum_by f xs) xs
each_within_sum f xs = has_all (λ x. f x ≤ sum_by f xs) xs (member_within_sum f xs)
