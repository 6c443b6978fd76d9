-- Rows that come all at once: a sort of what stays and what comes gives the list into which they came one after the other.
-- The plan: what stays is equal to none that comes, so no two of both are; the sort has what both have (into, back); so it rises;
-- a list that rises is told by what it has, which is that of the list into which they came (rows_joined, index_joined);
-- where none that is there has the bytes of one that comes, all of them stay (rows_merged, index_merged);
-- what was taken out first makes no difference (put_again, joined_again), and both lists stay in step (joined_keeps).
use Rattle.std.proofs.Math.Logic.{⊎_swap}
use Rattle.std.proofs.Common.{◌≡◌, ◌⊎◌, ◌∙◌, refl, sym, ap, subst, inl, inr, true, false, List, [], ◌∷◌, ◌++◌, Ordering}
use Rattle.std.proofs.lemmas.Bool.{not-true, or_parts}
use Rattle.std.proofs.lemmas.Cmp.{eq_by_cmp_equiv}
use Rattle.std.proofs.lemmas.List.Sorted.{Contains-permutation, IsPermutation-sym}
use Rattle.std.proofs.lemmas.Map.Keys.{IsDistinct-IsPermutation}
use Rattle.std.proofs.lemmas.List.Kept.{IsStrictlySortedBy-filter}
use Rattle.std.specs.Cmp.{IsTotalOrder}
use Rattle.std.specs.List.{AllByRecursion, IsDistinct, list_any}
use Rattle.std.specs.List.Sorted.{IsPermutation, IsSortedBy, IsStrictlySortedBy}
use Rattle.std.specs.Ordering.{eq_by_cmp, is_eq, is_lt}
use Rattle.std.specs.declared.cmp.Ordering.TheVariants.{Less}
use Rattle.ifmap_lemmas.specs.Choices.{fails_too}
use Rattle.ifmap_lemmas.specs.Filters.{all_weaker, filter_again, filter_all}
use Rattle.ifmap_lemmas.specs.Having.{Has, filter_has, from_has, has_either, has_filter, has_from, has_left, has_right}
use Rattle.ifmap_lemmas.specs.Rising.{distinct_joined, rises_apart, rising_same}
use Rattle.ifmap_meta.specs.declared.stored.Stored.{Stored}
use Rattle.ifmap_plans.specs.Lists.{list_without, put_each}
use Rattle.ifmap_plans.specs.laws.KeyLaws.{stored_total}
use Rattle.ifmap_plans.specs.ifmap_view.Attachments.{stored_order}
use Rattle.ifmap_rows.specs.Indexed.{IsIndexed, IsJoined, word_order}
use Rattle.ifmap_rows.specs.laws.JoiningLaws.{each_in, in_each, is_not_among, rising_each}
use Rattle.ifmap_rows.proofs.Keeping.{words_total, worded_equal}

module _ (X : Type 0) (C D : X → X → Ordering) (finer : (a s : X) → is_eq (D a s) ≡ true → is_eq (C a s) ≡ true) where
  -- no two members of a list that rises are equal, by a finer order neither
  apart : (xs : List X) → IsStrictlySortedBy C xs → IsDistinct (eq_by_cmp D) xs
  unfolding IsStrictlySortedBy IsDistinct
  apart [] up = tt
  apart (x ∷ xs) up = (
    all_weaker (λ y. C x y ≡ Less) (λ y. eq_by_cmp D x y ≡ false) (λ y l. fails_too (is_eq (D x y)) (is_eq (C x y)) (finer x y) (ap is_eq
        l))
        xs up.0,
    apart xs up.1,
  )

  -- what stays is equal to none that comes
  stays_apart : IsTotalOrder C → (w : X) (adds : List X) → list_any (λ r. eq_by_cmp C r w) adds ≡ false
      → AllByRecursion (λ a. eq_by_cmp D w a ≡ false) adds
  stays_apart o w [] e = tt
  stays_apart o w (a ∷ adds) e =
      let p = or_parts (eq_by_cmp C a w) (list_any (λ r. eq_by_cmp C r w) adds) e in
      (fails_too (is_eq (D w a)) (is_eq (C w a)) (finer w a) ((eq_by_cmp_equiv o).symm w a ∙ p.0), stays_apart o w adds p.1)

-- ---- a sort of what stays and what comes

module _ (list added next : List Stored) (up : IsStrictlySortedBy stored_order added)
    (made : IsPermutation (list_without added list ++ added) next) where
  into : (s : Stored) → Has next s → Has added s ⊎ Has (list_without added list) s
  into s h =
      ⊎_swap (has_either (list_without added list) added s (has_from (list_without added list ++ added) s
      (Contains-permutation next (list_without added list ++ added) s (IsPermutation-sym (list_without added list ++ added) next made)
      (from_has next s h))))

  joined_has : (s : Stored) → Has added s ⊎ Has (list_without added list) s → Has (list_without added list ++ added) s
  joined_has s (inl h) = has_right (list_without added list) added s h
  joined_has s (inr h) = has_left (list_without added list) added s h

  back : (s : Stored) → Has added s ⊎ Has (list_without added list) s → Has next s
  back s h =
      has_from next s
      (Contains-permutation (list_without added list ++ added) next s made (from_has (list_without added list ++ added) s (joined_has s h)))

  kept_apart : (D : Stored → Stored → Ordering) (o : IsTotalOrder D)
      → ((a s : Stored) → is_eq (D a s) ≡ true → is_eq (stored_order a s) ≡ true)
      → IsDistinct (eq_by_cmp D) (list_without added list) → IsDistinct (eq_by_cmp D) next
  kept_apart D o finer w =
      IsDistinct-IsPermutation (eq_by_cmp D) ((eq_by_cmp_equiv o).symm) (list_without added list ++ added) next made
      (distinct_joined (eq_by_cmp D) (list_without added list) added w (apart Stored stored_order D finer added up)
      (λ s h. stays_apart Stored stored_order D finer stored_total s added
      (not-true (list_any (λ r. eq_by_cmp stored_order r s) added) (filter_has (is_not_among added) list s h).1)))

  pub rows_joined : IsStrictlySortedBy stored_order list → IsSortedBy (λ x y. is_lt (stored_order x y)) next → next ≡ put_each added list
  rows_joined rows sorted =
      let same : (a s : Stored) → is_eq (stored_order a s) ≡ true → is_eq (stored_order a s) ≡ true = λ a s e. e in
      let rises = rises_apart stored_order stored_total next sorted (kept_apart stored_order stored_total same
      (apart Stored stored_order stored_order same (list_without added list)
      (IsStrictlySortedBy-filter stored_order (is_not_among added) list rows))) in
      rising_same stored_order stored_total next (put_each added list) rises (rising_each added list rows)
      (λ s h. in_each added list s up (into s h)) (λ s h. back s (each_in added list s h))

  pub index_joined : IsStrictlySortedBy word_order list → IsSortedBy (λ x y. is_lt (word_order x y)) next → IsJoined list added next
  index_joined worded sorted =
      let same : (a s : Stored) → is_eq (word_order a s) ≡ true → is_eq (word_order a s) ≡ true = λ a s e. e in
      record {
        worded = rises_apart word_order words_total next sorted (kept_apart word_order words_total
            (λ a s e. ap is_eq (worded_equal a s e))
            (apart Stored word_order word_order same (list_without added list)
            (IsStrictlySortedBy-filter word_order (is_not_among added) list worded)));
        made = made;
      }

-- and where none that is there has the bytes of one that comes
module _ (list added next : List Stored) (up : IsStrictlySortedBy stored_order added) (apart : list_without added list ≡ list)
    (made : IsPermutation (list ++ added) next) where
  abbrev all : IsPermutation (list_without added list ++ added) next
  all = subst (λ l. IsPermutation (l ++ added) next) (sym apart) made

  pub rows_merged : IsStrictlySortedBy stored_order list → IsSortedBy (λ x y. is_lt (stored_order x y)) next → next ≡ put_each added list
  rows_merged rows sorted = rows_joined list added next up all rows sorted

  pub index_merged : IsStrictlySortedBy word_order list → IsSortedBy (λ x y. is_lt (word_order x y)) next → IsJoined list added next
  index_merged worded sorted = index_joined list added next up all worded sorted

-- what comes may take the place of its like first
pub put_again : (added rows : List Stored) → IsStrictlySortedBy stored_order added → IsStrictlySortedBy stored_order rows
    → put_each added (list_without added rows) ≡ put_each added rows
put_again added rows up rising =
    rising_same stored_order stored_total (put_each added (list_without added rows)) (put_each added rows)
    (rising_each added (list_without added rows) (IsStrictlySortedBy-filter stored_order (is_not_among added) rows rising))
    (rising_each added rows rising)
    (λ s h. in_each added rows s up (elim (each_in added (list_without added rows) s h) [
      | inl k ↦ inl k
      | inr k ↦ inr (subst (λ l. Has l s) (filter_again (is_not_among added) rows) k)
    ]))
    (λ s h. in_each added (list_without added rows) s up (elim (each_in added rows s h) [
      | inl k ↦ inl k
      | inr k ↦ inr (subst (λ l. Has l s) (sym (filter_again (is_not_among added) rows)) k)
    ]))

pub joined_again : (index added next : List Stored) → IsJoined (list_without added index) added next → IsJoined index added next
joined_again index added next j = record {
  worded = j.worded;
  made = subst (λ l. IsPermutation (l ++ added) next) (filter_again (is_not_among added) index) j.made;
}

-- the index has none of the same bytes either
pub index_apart : (rows index added : List Stored) → IsIndexed rows index → list_without added rows ≡ rows
    → list_without added index ≡ index
index_apart rows index added is apart = filter_all (is_not_among added) index (each index (λ s h. h))
  where
    each : (xs : List Stored) → ((s : Stored) → Has xs s → Has index s) → AllByRecursion (λ s. is_not_among added s ≡ true) xs
    each [] f = tt
    each (x ∷ xs) f = (
      (filter_has (is_not_among added) rows x (subst (λ l. Has l x) (sym apart) (is.there x (f x (inl refl))))).1,
      each xs (λ s h. f s (inr h)),
    )

-- rows come to both lists
pub joined_keeps : (rows index added next : List Stored) → IsIndexed rows index → IsStrictlySortedBy stored_order added
    → IsJoined index added next → IsIndexed (put_each added rows) next
joined_keeps rows index added next is up j = record {
  rising = rising_each added rows is.rising;
  worded = j.worded;
  there = λ s h. in_each added rows s up (elim (into index added next up j.made s h) [
    | inl k ↦ inl k
    | inr k ↦ inr (let p = filter_has (is_not_among added) index s k in has_filter (is_not_among added) rows s (is.there s p.0) p.1)
  ]);
  back = λ s h. back index added next up j.made s (elim (each_in added rows s h) [
    | inl k ↦ inl k
    | inr k ↦ inr (let p = filter_has (is_not_among added) rows s k in has_filter (is_not_among added) index s (is.back s p.0) p.1)
  ]);
}
