-- What `position` tells of a list: where the first member stands that passes, and that none does.
use Rattle.std.proofs.Common.{◌≡◌, ℕ, ◌<◌, ◌≤◌, Bool, true, false, not, cond, List, Option, None, Some, length, refl, arith, subst}
use Rattle.std.specs.Prelude.{nat_lt}
use Rattle.std.specs.List.{position, position_or_len}
use Rattle.std.proofs.lemmas.Bool.Decides.{nat_tests}
use Rattle.std.proofs.lemmas.List.Sums.{prefix_len-le-length}

abbrev pub at_place : ℕ → Option ℕ
at_place n = Some n

placed : (b : Bool) (k index : ℕ) → at_place index ≡ cond b (at_place k) None → (b ≡ true) × (k ≡ index)
placed true k index h = (refl, cc)
placed false k index h = cc

unplaced : (b : Bool) (k : ℕ) → None ≡ cond b (at_place k) None → b ≡ false
unplaced true k h = cc
unplaced false k h = refl

module _ {X : Type 0} (p : X → Bool) (xs : List X) where
  abbrev place : ℕ
  place = position_or_len p xs

  module _ (index : ℕ) (h : at_place index ≡ position p xs) where
    pub place_is : place ≡ index
    place_is = (placed (nat_lt place (length xs)) place index h).1

    pub place_inside : index < length xs
    place_inside =
        let lt : nat_lt place (length xs) ≡ true = (placed (nat_lt place (length xs)) place index h).0 in
        let below : place < length xs = grind (arith, nat_tests) in
        subst (λ (n : ℕ). n < length xs) place_is below

  pub no_place : None ≡ position p xs → place ≡ length xs
  no_place h =
      let not_below : nat_lt place (length xs) ≡ false = unplaced (nat_lt place (length xs)) place h in
      let above : length xs ≤ place = grind (arith, nat_tests) in
      let within : place ≤ length xs = prefix_len-le-length (λ (x : X). not (p x)) xs in
      omega (arith, above, within)
