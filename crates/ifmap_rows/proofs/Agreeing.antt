-- Where a search along the words of an index ends.
use Rattle.std.proofs.Common.{◌≡◌, ◌⊎◌, ◌∙◌, ap, inl, inr, Bool, true, false, [], List, ◌∷◌}
use Rattle.std.proofs.Common.{ℕ, ◌<◌, ◌≤◌, suc, zero, length, get_or, arith, Ordering, ltb}
use Rattle.std.proofs.Common.{Contains}
use Rattle.std.proofs.lemmas.Bool.{cases_lt}
use Rattle.std.proofs.lemmas.Bool.Decides.{nat_tests}
use Rattle.std.proofs.lemmas.Cmp.{nat_cmp_total}
use Rattle.std.proofs.lemmas.List.{get_or_default}
use Rattle.std.proofs.lemmas.List.Elements.{recursion_from_All}
use Rattle.std.proofs.lemmas.List.Sorted.{IsPartitionedBy-ltb}
use Rattle.std.proofs.lemmas.Map.Keys.{ge_from_not_lt}
use Rattle.std.specs.List.{AllByRecursion}
use Rattle.std.specs.List.Sorted.{IsNonDecreasingBy, IsPartitionPoint, IsPartitionedBy, IsStrictlySortedBy}
use Rattle.std.specs.Ordering.{is_lt, nat_cmp, ordering_reverse}
use Rattle.std.specs.declared.cmp.Ordering.TheVariants.{Less, Equal}
use Rattle.ifmap_lemmas.specs.Filters.{all_at}
use Rattle.ifmap_lemmas.specs.Having.{from_has, has_from, all_has, has_all}
use Rattle.ifmap_lemmas.specs.Orderings.{first_of_less}
use Rattle.ifmap_meta.specs.declared.stored.Stored.{Stored}
use Rattle.ifmap_meta.specs.Keys.{HaveOneKey, word_of}
use Rattle.ifmap_meta.specs.laws.KeyWordLaws.{words_agree}
use Rattle.ifmap_plans.specs.ifmap_view.Attachments.{stored_order}
use Rattle.ifmap_rows.specs.Indexed.{IsIndexed, word_order}

-- ---- along the index

less_rises : (r : Ordering) → (r ≡ Less) ⊎ (r ≡ Equal) → is_lt (ordering_reverse r) ≡ false
less_rises r (inl e) = ap (λ q. is_lt (ordering_reverse q)) e
less_rises r (inr e) = ap (λ q. is_lt (ordering_reverse q)) e

word_rises : (a b : Stored) → word_order a b ≡ Less → word_of a ≤ word_of b
word_rises a b e =
    ge_from_not_lt (word_of b) (word_of a) (ap is_lt (nat_cmp_total.antisymm (word_of b) (word_of a))
    ∙ less_rises (nat_cmp (word_of a) (word_of b)) (first_of_less (nat_cmp (word_of a) (word_of b)) (stored_order a b) e))

pub words_rise : (xs : List Stored) → IsStrictlySortedBy word_order xs → IsNonDecreasingBy word_of xs
unfolding IsStrictlySortedBy
words_rise [] up i j d le lt = absurd (omega (arith, lt))
words_rise (x ∷ xs) up zero zero d le lt = omega arith
words_rise (x ∷ xs) up zero (suc j) d le lt =
    word_rises x (get_or xs j d) (all_at (λ y. word_order x y ≡ Less) xs j d up.0 (omega arith))
words_rise (x ∷ xs) up (suc i) zero d le lt = absurd (omega (arith, le))
words_rise (x ∷ xs) up (suc i) (suc j) d le lt = words_rise xs up.1 i j d (omega arith) (omega arith)

abbrev HasNot : Stored → Stored → Type 0
HasNot row s = HaveOneKey row s → ⊥

module _ (row : Stored) (word : ℕ) (of : word ≡ word_of row) (index : List Stored) (up : IsStrictlySortedBy word_order index) where
  other_word : (s : Stored) → (word ≡ word_of s → ⊥) → HasNot row s
  other_word s n h = n (of ∙ words_agree row s h)

  abbrev below : Stored → Bool
  below s = ltb (word_of s) word

  pub words_part_index : IsPartitionedBy below index
  words_part_index = IsPartitionedBy-ltb word_of index word (words_rise index up)

  module _ (i : ℕ) (point : IsPartitionPoint (λ y. below y ≡ true) (λ y. below y ≡ false) index i) where
    less : (s : Stored) → below s ≡ true → word ≡ word_of s → ⊥
    less s b e = let l : word_of s < word = grind (arith, nat_tests) in absurd (omega (arith, l, e))

    -- what stands in front of those of the word has another key
    pub front_differs : (j : ℕ) (d : Stored) → j < i → HasNot row (get_or index j d)
    front_differs j d l = other_word (get_or index j d) (less (get_or index j d) (point.0 j d (omega arith) l))

    pub rest_least : (j : ℕ) (d : Stored) → i ≤ j → j < length index → word ≤ word_of (get_or index j d)
    rest_least j d le lt = let b : below (get_or index j d) ≡ false = point.1 j d le lt in grind (arith, nat_tests)

  -- none that was passed has the key
  module _ (i : ℕ) (passed : (j : ℕ) (d : Stored) → j < i → HasNot row (get_or index j d)) where
    pub none_at_end : length index ≤ i → AllByRecursion (HasNot row) index
    none_at_end le = recursion_from_All (HasNot row) index (λ j d l h. passed j d (omega arith) h)

    -- and where the next has a greater word, none that follows has
    pub none_beyond : (x : Stored) → x ≡ get_or index i x → i < length index → word ≤ word_of (get_or index i x) → (word_of x ≡ word → ⊥)
        → AllByRecursion (HasNot row) index
    none_beyond x at lt least other =
        recursion_from_All (HasNot row) index (λ j d low l. elim (cases_lt j i) [
          | inl front ↦ passed j d front l
          | inr after ↦
              let rises : word_of (get_or index i d) ≤ word_of (get_or index j d) = words_rise index up i j d after low in
              let one : word_of x ≡ word_of (get_or index i d) = ap word_of (at ∙ get_or_default index i x d lt) in
              let same : word_of x ≡ word_of (get_or index i x) = ap word_of at in
              other_word (get_or index j d) (λ e. other (omega (arith, rises, one, same, least, e))) l
        ])

-- ---- from an index to what it has

abbrev IsFound : Stored → List Stored → Stored → Type 0
IsFound row list found = Contains list found × HaveOneKey row found

module _ (row : Stored) (rows index : List Stored) (is : IsIndexed rows index) where
  pub found_in : (found : Stored) → IsFound row index found → IsFound row rows found
  found_in found f = (from_has rows found (is.there found (has_from index found f.0)), f.1)

  pub none_in : AllByRecursion (HasNot row) index → AllByRecursion (HasNot row) rows
  none_in a = has_all (HasNot row) rows (λ s h. all_has (HasNot row) index a s (is.back s h))
