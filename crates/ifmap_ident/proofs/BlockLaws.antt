-- How much two blocks share, told by the mask of the lanes that differ.
use Rattle.std.proofs.Common.{◌≡◌, ◌≢◌, ℕ, zero, suc, ◌+◌, ◌%◌, ◌^◌, ◌<◌, ◌≤◌, min, Bool, true, false, not, cond, ◌==◌, w8}
use Rattle.std.proofs.Common.{List, [], ◌∷◌, ◌++◌, None, Some, length, take, drop, map}
use Rattle.std.proofs.Common.{inl, inr, refl, ap, subst, sym, ◌∙◌, arith}
use Rattle.std.proofs.lemmas.Bool.{cases_eq, cond-false, cond-true, eq-eqb, eqb-false, eqb-true, ne_eqb}
use Rattle.std.proofs.lemmas.List.{map-id, take-take}
use Rattle.std.proofs.lemmas.List.Sums.{prefix_len-le-length}
use Rattle.std.proofs.lemmas.Option.{slice_get_past, same_Some}
use Rattle.std.proofs.lemmas.Simd.{first_set_mask_l, length-chunk, length-zip2, mask_l-mod, tops_compared}
use Rattle.std.specs.List.{prefix_len, slice_get}
use Rattle.ifmap_lemmas.specs.Joined.{slice_get_drop, slice_get_take}
use lib.Count.{count_trailing_zeros}
use lib.Dec.{eqb}
use lib.Lanes.{chunk, mask_l, top, zip2}

-- two bytes differ
abbrev pub differ : ℕ → ℕ → Bool
differ a b = not (a == b)

-- two lists share their first n, and no more unless they end there
abbrev pub Shares : List ℕ → List ℕ → ℕ → Type 0
Shares xs ys n = (take n xs ≡ take n ys) × (n < length xs → slice_get xs n ≢ slice_get ys n)

shares_more : (same : Bool) (x y : ℕ) (xs ys : List ℕ) (n : ℕ) → (x == y) ≡ same → Shares xs ys n
    → Shares (x ∷ xs) (y ∷ ys) (cond (not (not same)) (1 + n) 0)
shares_more true x y xs ys n e h =
    let first = eqb-true x y e in
    let next : suc n ≡ 1 + n = omega arith in
    subst (Shares (x ∷ xs) (y ∷ ys)) next ((λ i. first i ∷ h.0 i), λ short. h.1 (omega arith))
shares_more false x y xs ys n e h = (refl, λ short same. absurd (eqb-false x y e (same_Some x y same)))

-- they share as many as stand before the first two that differ
shares_front : (xs ys : List ℕ) → length xs ≡ length ys → Shares xs ys (prefix_len not (zip2 differ xs ys))
shares_front [] [] e = (refl, λ short. absurd (omega arith))
shares_front [] (y ∷ ys) e = absurd (omega arith)
shares_front (x ∷ xs) [] e = absurd (omega arith)
shares_front (x ∷ xs) (y ∷ ys) e =
    shares_more (x == y) x y xs ys (prefix_len not (zip2 differ xs ys)) refl (shares_front xs ys (omega arith))

-- the mask of two blocks has the lanes that differ
mask_of : (xs ys : List ℕ) → length xs ≡ 16 → length ys ≡ 16
    → mask_l (map (top 7) (zip2 (λ a b. cond (differ a b) 255 0) xs ys)) % 2 ^ 64 ≡ mask_l (map (λ b. b) (zip2 differ xs ys))
mask_of xs ys long also =
    let lanes = length-zip2 differ xs ys (long ∙ sym also) ∙ long in
    ap (λ ms. mask_l ms % 2 ^ 64) (tops_compared w8 differ xs ys) ∙ mask_l-mod (zip2 differ xs ys) 64 (omega arith)
    ∙ ap mask_l (sym (map-id (zip2 differ xs ys)))

-- two texts share n bytes from a place on, of a block, and differ there if the block goes on
abbrev pub SharesInBlock : List ℕ → List ℕ → ℕ → ℕ → Type 0
SharesInBlock one other at n =
    (n ≤ 16) × (take n (drop at one) ≡ take n (drop at other)) × (n < 16 → slice_get one (at + n) ≢ slice_get other (at + n))

module _ (one other : List ℕ) (at : ℕ) (room : at + 16 ≤ length one) (also : at + 16 ≤ length other) where
  from_blocks : (n : ℕ) → n ≤ 16 → Shares (chunk at 16 one) (chunk at 16 other) n → SharesInBlock one other at n
  from_blocks n few h = (
    few,
    sym (take-take n 16 (drop at one) few) ∙ h.0 ∙ take-take n 16 (drop at other) few,
    λ short same. h.1 (omega (arith, length-chunk at 16 one room)) (slice_get_take 16 n (drop at one) short ∙ slice_get_drop at n one
        ∙ same ∙ sym (slice_get_take 16 n (drop at other) short ∙ slice_get_drop at n other)),
  )

  -- the lanes that differ, and how many stand before the first
  abbrev lanes : List Bool
  lanes = zip2 differ (chunk at 16 one) (chunk at 16 other)

  sixteen_lanes : length lanes ≡ 16
  sixteen_lanes =
      length-zip2 differ (chunk at 16 one) (chunk at 16 other) (length-chunk at 16 one room ∙ sym (length-chunk at 16 other also))
      ∙ length-chunk at 16 one room

  abbrev mask : ℕ
  mask = mask_l (map (top 7) (zip2 (λ a b. cond (differ a b) 255 0) (chunk at 16 one) (chunk at 16 other))) % 2 ^ 64

  zeros_count_shared : (n : ℕ) → cond (eqb mask 0) 16 (count_trailing_zeros 64 mask) ≡ n → SharesInBlock one other at n
  zeros_count_shared n e =
      let same = mask_of (chunk at 16 one) (chunk at 16 other) (length-chunk at 16 one room) (length-chunk at 16 other also) in
      let front : prefix_len not lanes ≡ n =
      sym (first_set_mask_l (λ b. b) lanes 16 sixteen_lanes (omega arith))
      ∙ sym (ap (λ m. cond (eqb m 0) 16 (count_trailing_zeros 64 m)) same) ∙ e in
      from_blocks n (omega (arith, front, sixteen_lanes, prefix_len-le-length not lanes))
      (subst (Shares (chunk at 16 one) (chunk at 16 other)) front (shares_front (chunk at 16 one) (chunk at 16 other)
      (length-chunk at 16 one room ∙ sym (length-chunk at 16 other also))))

  -- where no lane differs
  pub all_shared : mask ≡ 0 → SharesInBlock one other at 16
  all_shared none = zeros_count_shared 16 (cond-true _ _ _ (eq-eqb mask 0 none))

  -- where some lane does
  pub some_shared : mask ≢ 0 → SharesInBlock one other at (count_trailing_zeros 64 mask)
  some_shared some = zeros_count_shared (count_trailing_zeros 64 mask) (cond-false _ _ _ (ne_eqb mask 0 some))

-- ---- blocks in a row

-- in the last block, which ends where one of them does
pub apart_in_last : (one other : List ℕ) (at n : ℕ) → at + 16 ≡ min (length one) (length other) → SharesInBlock one other at n
    → slice_get one (at + n) ≡ slice_get other (at + n) → slice_get one (at + n) ≡ None
apart_in_last one other at n ends h same =
    elim (cases_eq n 16) [
      | inr some ↦ absurd (h.2 (omega (arith, h.0)) same)
      | inl all ↦ elim (cases_eq (length one) (min (length one) (length other))) [
        | inl here ↦ slice_get_past one (at + n) (omega arith)
        | inr there ↦ same ∙ slice_get_past other (at + n) (omega arith)
      ]
    ]
