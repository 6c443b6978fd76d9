-- Putting in, taking out and finding, in lists that rise strictly.
use Rattle.std.proofs.Common.{◌≡◌, ◌⊎◌, refl, sym, ◌∙◌, ap, subst, ℕ, suc, zero, ◌<◌, ◌≤◌, Bool, true, false, List, [], ◌∷◌, length}
use Rattle.std.proofs.Common.{get_or, Ordering, arith, Result, Ok, Err, inl, inr, set}
use Rattle.std.proofs.lemmas.Cmp.{alike_right, eq_by_cmp_equiv}
use Rattle.std.proofs.lemmas.List.Elements.{recursion_from_All}
use Rattle.std.proofs.lemmas.List.Folds.{list_any_at}
use Rattle.std.proofs.lemmas.List.Kept.{IsStrictlySortedBy-filter}
use Rattle.std.proofs.lemmas.List.Sorted.{searchable_from_sorted}
use Rattle.std.specs.Cmp.{IsEquivalence, IsTotalOrder}
use Rattle.std.specs.List.{AllByRecursion, IsDistinct, filter, insert, list_any}
use Rattle.std.specs.List.Sorted.{IsBinarySearchResult, IsPartitionPoint, IsSearchInRange, IsStrictlySortedBy}
use Rattle.std.specs.Ordering.{eq_by_cmp, is_eq, is_gt, is_lt}
use Rattle.std.specs.Result.{is_ok}
use Rattle.std.specs.declared.cmp.Ordering.TheVariants.{Less, Equal, Greater}
use Rattle.ifmap_lemmas.specs.Filters.{all_around, all_at, all_filter, all_weaker, filter_all, filter_none, filter_passes}
use Rattle.ifmap_lemmas.specs.Having.{Has, filter_has, has_either, has_filter, has_left, has_right}
use Rattle.ifmap_lemmas.specs.Orderings.{greater_reversed, is_greater, is_less, less_differs, less_reversed}
use Rattle.ifmap_lemmas.specs.Rising.{rises_around, rises_in_order}
use Rattle.ifmap_plans.specs.Placing.{IsSpot, put}
pub use Rattle.ifmap_lemmas.specs.Inserted.{found_any, gap_none}

module _ (X : Type 0) (C : X → X → Ordering) (o : IsTotalOrder C) where
  -- all that follow one that is not less are greater
  greater_next : (a x : X) (xs : List X) → C x a ≡ Greater → AllByRecursion (λ y. C x y ≡ Less) xs
      → AllByRecursion (λ y. C y a ≡ Greater) xs
  greater_next a x xs h up = all_weaker (λ y. C x y ≡ Less) (λ y. C y a ≡ Greater)
      (λ y l. less_reversed o a y (o.trans a x y (greater_reversed o x a h) l)) xs up

  greater_after : (a x : X) (xs : List X) → C x a ≡ Equal → AllByRecursion (λ y. C x y ≡ Less) xs → AllByRecursion (λ y. C y a ≡ Greater) xs
  greater_after a x xs h up = all_weaker (λ y. C x y ≡ Less) (λ y. C y a ≡ Greater)
      (λ y l. less_reversed o a y (sym (o.congr x a y h) ∙ l)) xs up

  -- where all are greater, it goes in front
  pub put_front : (a : X) (xs : List X) → AllByRecursion (λ y. C y a ≡ Greater) xs → put C a xs ≡ a ∷ xs
  put_front a xs h =
      rw (
        filter_none (λ y. is_lt (C y a)) xs (all_weaker (λ y. C y a ≡ Greater) (λ y. is_lt (C y a) ≡ false) (λ y g. ap is_lt g) xs h),
        filter_all (λ y. is_gt (C y a)) xs (all_weaker (λ y. C y a ≡ Greater) (λ y. is_gt (C y a) ≡ true) (λ y g. ap is_gt g) xs h),
      ) refl

  pub put_less : (a x : X) (xs : List X) → C x a ≡ Less → put C a (x ∷ xs) ≡ x ∷ put C a xs
  put_less a x xs h = rw h refl

  put_equal : (a x : X) (xs : List X) → C x a ≡ Equal → put C a (x ∷ xs) ≡ put C a xs
  put_equal a x xs h = rw h refl

  -- where a search ends at one that is equal, it is put there
  pub set_is_put : (a : X) (xs : List X) (i : ℕ) → IsStrictlySortedBy C xs → i < length xs → ((d : X) → C (get_or xs i d) a ≡ Equal)
      → set xs i a ≡ put C a xs
  unfolding IsStrictlySortedBy
  set_is_put a [] i up lt is = absurd (omega arith)
  set_is_put a (x ∷ xs) zero up lt is = sym (put_equal a x xs (is x) ∙ put_front a xs (greater_after a x xs (is x) up.0))
  set_is_put a (x ∷ xs) (suc i) up lt is =
      let less : C x a ≡ Less = sym (alike_right o (get_or xs i x) a x (is x)) ∙ all_at (λ y. C x y ≡ Less) xs i x up.0 (omega arith) in
      ap (λ t. x ∷ t) (set_is_put a xs i up.1 (omega arith) is) ∙ sym (put_less a x xs less)

  -- and where it ends between two, it goes in there
  pub insert_is_put : (a : X) (xs : List X) (i : ℕ) → i ≤ length xs → IsPartitionPoint (λ y. C y a ≡ Less) (λ y. C y a ≡ Greater) xs i
      → insert xs i a ≡ put C a xs
  insert_is_put a [] zero le p = refl
  insert_is_put a [] (suc i) le p = refl
  insert_is_put a (x ∷ xs) zero le p = sym (put_front a (x ∷ xs) (recursion_from_All (λ y. C y a ≡ Greater) (x ∷ xs)
      (λ j d h. p.1 j d (omega arith) h)))
  insert_is_put a (x ∷ xs) (suc i) le p =
      ap (λ t. x ∷ t) (insert_is_put a xs i (omega arith) (
        (λ j d low h. p.0 (suc j) d (omega arith) (omega arith)),
        (λ j d low h. p.1 (suc j) d (omega arith) (omega arith)),
      ))
      ∙ sym (put_less a x xs (p.0 0 x (omega arith) (omega arith)))

  pub found_is_put : (a : X) (xs : List X) (i : ℕ) → IsStrictlySortedBy C xs → IsSearchInRange (Ok i) (length xs)
      → IsBinarySearchResult (λ y. C y a) xs (Ok i) → (i < length xs) × (set xs i a ≡ put C a xs)
  found_is_put a xs i up within is = (within, set_is_put a xs i up within is)

  pub gap_is_put : (a : X) (xs : List X) (i : ℕ) → IsStrictlySortedBy C xs → IsSearchInRange (Err i) (length xs)
      → IsBinarySearchResult (λ y. C y a) xs (Err i) → (i ≤ length xs) × (insert xs i a ≡ put C a xs)
  gap_is_put a xs i up within is =
      (within, insert_is_put a xs i within (is (searchable_from_sorted o (λ y. y) xs a (rises_in_order C o xs up))))

  -- where a search by halving ends
  pub spot : (a : X) (xs : List X) (r : Result ℕ ℕ) → IsStrictlySortedBy C xs → IsSearchInRange r (length xs)
      → IsBinarySearchResult (λ y. C y a) xs r → IsSpot C a xs r
  spot a xs (Ok i) up within is = (within, is, set_is_put a xs i up within is)
  spot a xs (Err i) up within is =
      let placed = gap_is_put a xs i up within is in
      (placed.0, placed.1, gap_none X C o a xs i up within is)

  -- and whether one is equal there
  pub spot_found : (a : X) (xs : List X) (r : Result ℕ ℕ) → IsSpot C a xs r → is_ok r ≡ list_any (λ y. eq_by_cmp C y a) xs
  spot_found a xs (Ok i) at = sym (list_any_at (λ y. eq_by_cmp C y a) xs i a at.0 (ap is_eq (at.1 a)))
  spot_found a xs (Err i) at = sym at.2

  -- a list stays in strict order
  pub put_sorted : (a : X) (xs : List X) → IsStrictlySortedBy C xs → IsStrictlySortedBy C (put C a xs)
  put_sorted a xs up =
      rises_around C o (filter (λ y. is_lt (C y a)) xs) a (filter (λ y. is_gt (C y a)) xs)
      (IsStrictlySortedBy-filter C (λ y. is_lt (C y a)) xs up) (IsStrictlySortedBy-filter C (λ y. is_gt (C y a)) xs up)
      (all_weaker (λ y. is_lt (C y a) ≡ true) (λ y. C y a ≡ Less) (λ y h. is_less (C y a) h) _ (filter_passes (λ y. is_lt (C y a)) xs))
      (all_weaker (λ y. is_gt (C y a) ≡ true) (λ y. C a y ≡ Less)
      (λ y h. greater_reversed o y a (is_greater (C y a) h)) _ (filter_passes (λ y. is_gt (C y a)) xs))

  -- and has the one that was put in
  pub has_put_one : (a : X) (xs : List X) → Has (put C a xs) a
  has_put_one a xs = has_right (filter (λ y. is_lt (C y a)) xs) (a ∷ filter (λ y. is_gt (C y a)) xs) a (inl refl)

  -- what a list has after one is put in
  pub put_has : (a : X) (xs : List X) (x : X) → Has (put C a xs) x → (a ≡ x) ⊎ (Has xs x × (is_eq (C a x) ≡ false))
  put_has a xs x h = elim (has_either (filter (λ y. is_lt (C y a)) xs) (a ∷ filter (λ y. is_gt (C y a)) xs) x h) [
    | inl l ↦ let p = filter_has (λ y. is_lt (C y a)) xs x l in inr (p.0, (eq_by_cmp_equiv o).symm a x ∙ less_differs (C x a) p.1)
    | inr r ↦ elim r [
      | inl e ↦ inl e
      | inr g ↦ let p = filter_has (λ y. is_gt (C y a)) xs x g in
          inr (p.0, (eq_by_cmp_equiv o).symm a x ∙ ap is_eq (is_greater (C x a) p.1))
    ]
  ]

  -- and what is not equal to it stays
  has_by : (a : X) (xs : List X) (x : X) (r : Ordering) → C x a ≡ r → Has xs x → is_eq (C a x) ≡ false → Has (put C a xs) x
  has_by a xs x Less is h e = has_left (filter (λ y. is_lt (C y a)) xs) (a ∷ filter (λ y. is_gt (C y a)) xs) x
      (has_filter (λ y. is_lt (C y a)) xs x h (ap is_lt is))
  has_by a xs x Equal is h e = let bad : true ≡ false = sym (ap is_eq is) ∙ (eq_by_cmp_equiv o).symm x a ∙ e in cc
  has_by a xs x Greater is h e = has_right (filter (λ y. is_lt (C y a)) xs) (a ∷ filter (λ y. is_gt (C y a)) xs) x
      (inr (has_filter (λ y. is_gt (C y a)) xs x h (ap is_gt is)))

  pub has_put : (a : X) (xs : List X) (x : X) → Has xs x → is_eq (C a x) ≡ false → Has (put C a xs) x
  has_put a xs x h e = has_by a xs x (C x a) refl h e

  module _ (E : X → X → Bool) (e : IsEquivalence E) (a : X) where
    -- with the first member less than, equal to or greater than the one that is put in
    distinct_at : (x : X) (xs : List X) (r : Ordering) → C x a ≡ r → AllByRecursion (λ y. C x y ≡ Less) xs
        → AllByRecursion (λ y. E x y ≡ false) xs → IsDistinct E xs → E a x ≡ false → AllByRecursion (λ y. E a y ≡ false) xs
        → IsDistinct E (put C a xs)
        → IsDistinct E (put C a (x ∷ xs))
    unfolding IsDistinct
    distinct_at x xs Less is up others apart differs differ rest =
        subst (IsDistinct E) (sym (put_less a x xs is)) (
          all_around (λ y. E x y ≡ false) (filter (λ y. is_lt (C y a)) xs) a (filter (λ y. is_gt (C y a)) xs)
              (all_filter (λ y. E x y ≡ false) (λ y. is_lt (C y a)) xs others) (e.symm x a ∙ differs) (all_filter (λ y. E x y ≡ false)
              (λ y. is_gt (C y a)) xs others),
          rest,
        )
    distinct_at x xs Equal is up others apart differs differ rest = subst (IsDistinct E) (sym (put_equal a x xs is)) rest
    distinct_at x xs Greater is up others apart differs differ rest =
        subst (IsDistinct E) (sym (put_front a (x ∷ xs) (is, greater_next a x xs is up))) ((differs, differ), (others, apart))

    -- and its keys stay distinct where none is that of the new member
    pub put_distinct : (xs : List X) → IsStrictlySortedBy C xs → IsDistinct E xs → AllByRecursion (λ y. E a y ≡ false) xs
        → IsDistinct E (put C a xs)
    unfolding IsStrictlySortedBy IsDistinct
    put_distinct [] up apart differ = (tt, tt)
    put_distinct (x ∷ xs) up apart differ = distinct_at x xs (C x a) refl up.0 apart.0 apart.1 differ.0 differ.1
        (put_distinct xs up.1 apart.1 differ.1)
