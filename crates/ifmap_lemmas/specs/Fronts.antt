-- Lists cut at a place: their front, and what follows it.
use Rattle.std.proofs.Common.{◌≡◌, ℕ, zero, suc, ◌-◌, ◌<◌, ◌≤◌, List, [], ◌∷◌, ◌++◌, length, take, drop, Some, refl, sym, ap, ◌∙◌, arith, append_assoc, length-take, drop-drop, ◌⊎◌, inl, inr, subst, length-append}
use Rattle.std.proofs.Math.Seq.{drop-append_seam, take-append_seam}
use Rattle.std.proofs.lemmas.List.{take-append-drop}
use Rattle.std.proofs.lemmas.Option.{none-some, same_Some}
use Rattle.std.specs.List.{slice_get, All}
use Rattle.std.proofs.Math.ListN.{get_or-append}

module _ {V : Type 0} where
  -- the front of a list, and what was put in place of what follows it
  pub front_again : (n : ℕ) (xs ys : List V) → n ≤ length xs → take n (take n xs ++ ys) ≡ take n xs
  front_again n xs ys h =
      let l : length (take n xs) ≡ n = length-take n xs ∙ omega arith in
      ap (λ m. take m (take n xs ++ ys)) (sym l) ∙ take-append_seam (take n xs) ys

  pub rest_again : (n : ℕ) (xs ys : List V) → n ≤ length xs → drop n (take n xs ++ ys) ≡ ys
  rest_again n xs ys h =
      let l : length (take n xs) ≡ n = length-take n xs ∙ omega arith in
      ap (λ m. drop m (take n xs ++ ys)) (sym l) ∙ drop-append_seam (take n xs) ys

  -- a list whose front is taken, and then what is dropped of the rest and what follows it
  pub joined_up : (from n : ℕ) (xs more : List V) → from ≤ n → take n xs ++ (drop (n - from) (drop from xs) ++ more) ≡ xs ++ more
  joined_up from n xs more h =
      let d : drop (n - from) (drop from xs) ≡ drop n xs = drop-drop (n - from) from xs ∙ ap (λ k. drop k xs) (omega arith) in
      ap (λ ys. take n xs ++ (ys ++ more)) d ∙ sym (append_assoc (take n xs) (drop n xs) more)
      ∙ ap (λ ys. ys ++ more) (take-append-drop n xs)

-- the front of a list that was put before another
pub front_taken : {X : Type 0} (n : ℕ) (xs ys : List X) → length xs ≡ n → take n (xs ++ ys) ≡ xs
front_taken n [] ys e = ap (λ m. take m ys) (sym e)
front_taken zero (x ∷ xs) ys e = absurd (omega (arith, e))
front_taken (suc n) (x ∷ xs) ys e = ap (λ zs. x ∷ zs) (front_taken n xs ys (omega (arith, e)))

-- a list around one of its members
pub cut_around : {X : Type 0} (xs : List X) (i : ℕ) (x : X) → slice_get xs i ≡ Some x → xs ≡ take i xs ++ x ∷ drop (suc i) xs
cut_around [] i x e = absurd (none-some x e)
cut_around (y ∷ ys) zero x e = ap (λ z. z ∷ ys) (same_Some y x e)
cut_around (y ∷ ys) (suc i) x e = ap (λ t. y ∷ t) (cut_around ys i x e)

-- each place but the last one
pub before_last : {X : Type 0} (xs : List X) (x : X) (i : ℕ) → i < length xs → slice_get (xs ++ x ∷ []) i ≡ slice_get xs i
before_last [] x i less = absurd (omega (arith, less))
before_last (y ∷ xs) x zero less = refl
before_last (y ∷ xs) x (suc i) less = before_last xs x i (omega (arith, less))

-- each place has something
pub there_is : {X : Type 0} (xs : List X) (i : ℕ) → i < length xs → (x : X) × (slice_get xs i ≡ Some x)
there_is [] i lt = absurd (omega (arith, lt))
there_is (x ∷ xs) zero lt = (x, refl)
there_is (x ∷ xs) (suc i) lt = there_is xs i (omega (arith, lt))

-- of two lists that make none, each is empty
pub both_empty : {X : Type 0} (a b : List X) → a ++ b ≡ [] → (a ≡ []) × (b ≡ [])
both_empty [] b e = (refl, e)
both_empty (x ∷ a) b e = cc

module _ {X : Type 0} where
  -- b goes on from a by middle, and c is middle and then d
  pub record GoesOn (a c b d : List X) : Type 0 where
    pub middle : List X
    pub longer : b ≡ a ++ middle
    pub shorter : c ≡ middle ++ d

  -- of two fronts of one list, one goes on from the other
  pub fronts : (a b c d : List X) → a ++ c ≡ b ++ d → GoesOn a c b d ⊎ GoesOn b d a c
  fronts [] b c d e = inl (record { middle = b; longer = refl; shorter = e })
  fronts (x ∷ a) [] c d e = inr (record { middle = x ∷ a; longer = refl; shorter = sym e })
  fronts (x ∷ a) (y ∷ b) c d e =
      let tails : a ++ c ≡ b ++ d = cc in
      elim (fronts a b c d tails) [
        | inl on ↦ let longer = on.longer in inl (record { middle = on.middle; longer = cc; shorter = on.shorter })
        | inr on ↦ let longer = on.longer in inr (record { middle = on.middle; longer = cc; shorter = on.shorter })
      ]

  -- what holds of each element holds of those in front
  pub all_front : (P : X → Type 0) (xs ys : List X) → All P (xs ++ ys) → All P xs
  all_front P xs ys all k d within =
      subst P (get_or-append xs ys d k within) (all k d (omega (arith, length-append xs ys)))
