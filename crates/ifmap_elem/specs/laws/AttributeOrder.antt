-- The order of attributes, and how often they occur.
-- 1. The order is total, and attributes that are equal in it are one attribute; so it ranks them.
-- 2. Sorting keeps the length and how often each occurs, so lists that differ in one of these are not the same in order.
-- 3. Lists of one length in whose first each member occurs as often as in the second are permutations of each other.
-- 4. A permutation that rises is the sorted list (`rising_is_sorted`); so is a list each of which is not greater than the next.
-- 5. The same of references, which are put in order in place of what they refer to; and permutations have one order.
use Rattle.std.proofs.Common.{◌≡◌, ℕ, ◌+◌, ◌≤◌, ◌<◌, suc, List, [], ◌∷◌, length, Bool, true, false, Option, Some, refl, ap, sym, ◌∙◌, subst, arith, get_or, map, inl, inr, ◌⊎◌, cond, add-one, Bor}
use Rattle.std.proofs.lemmas.List.Sums.{sum_by-cons}
use Rattle.std.specs.Bool.{OnTrue}
use Rattle.std.specs.List.{All, IsEachAdjacentAnswer}
use Rattle.std.proofs.lemmas.Bool.{cases_Bool, and_parts}
use Rattle.std.proofs.lemmas.Cmp.{nat_list_cmp_total, then_total, on_total}
use Rattle.std.proofs.lemmas.Slice.Eq.{bytes_eq-Decides}
use Rattle.std.specs.Cmp.{IsTotalOrder, Some-then}
use Rattle.std.specs.Cmp.Lexicographic.{slice_cmp}
use Rattle.std.specs.Str.{bytes_eq}
use Rattle.std.specs.Ordering.{is_gt, is_lt, is_le, is_some_and, partial_le, partial_ordering_then, nat_cmp}
use Rattle.std.specs.declared.cmp.Ordering.{Ordering}
use Rattle.std.specs.declared.cmp.Ordering.TheVariants.{Equal}
use Rattle.ifmap_elem.specs.declared.elements.Attribute.{Attribute}
use Rattle.ifmap_elem.specs.Arranged.{attribute_order, name_order, sort_attributes}
use Rattle.ifmap_elem.specs.printer.Occurrences.{attribute_eq, occurrences_of}
use Rattle.std.specs.List.Sorted.{IsPermutation, IsSorted}
use Rattle.std.proofs.lemmas.List.Sorted.{IsPermutation-map, IsPermutation-refl}
use Rattle.std.proofs.lemmas.List.{get_or-map, length-map}
use Rattle.ifmap_lemmas.specs.Sorting.{Ranks, in_order_same, in_order_is, in_order-rises, in_order-permutation, IsPermutation-in_order, length-in_order, count-in_order}
use Rattle.ifmap_lemmas.specs.Texts.{same_texts}
use Rattle.ifmap_lemmas.specs.Orderings.{both_equal}
use Rattle.ifmap_lemmas.specs.Ties.{not_greater_than, within_not_less, not_less_than}
use Rattle.ifmap_lemmas.specs.Ranking.{ranks}

texts_total : IsTotalOrder (slice_cmp nat_cmp)
texts_total = nat_list_cmp_total

pub attributes_total : IsTotalOrder attribute_order
attributes_total =
    then_total (then_total (on_total (λ (a : Attribute). a.name.space) texts_total)
    (on_total (λ (a : Attribute). a.name.local) texts_total)) (on_total (λ (a : Attribute). a.value) texts_total)

pub attributes_tied : (a b : Attribute) → attribute_order a b ≡ Equal → a ≡ b
attributes_tied a b e =
    let v = both_equal (name_order a.name b.name) (slice_cmp nat_cmp a.value b.value) e in
    let n = both_equal (slice_cmp nat_cmp a.name.space b.name.space) (slice_cmp nat_cmp a.name.local b.name.local) v.0 in
    let s = same_texts a.name.space b.name.space n.0 in
    let l = same_texts a.name.local b.name.local n.1 in
    let w = same_texts a.value b.value v.1 in
    λ i. record { name = record { space = s i; local = l i }; value = w i }

pub attribute_ranks : Ranks (λ a b. is_gt (attribute_order a b))
attribute_ranks = ranks attribute_order attributes_total attributes_tied

pub attribute_eq_itself : (a : Attribute) → attribute_eq a a ≡ true
attribute_eq_itself a =
    let s : bytes_eq a.name.space a.name.space ≡ true = (bytes_eq-Decides a.name.space a.name.space).1 refl in
    let l : bytes_eq a.name.local a.name.local ≡ true = (bytes_eq-Decides a.name.local a.name.local).1 refl in
    let v : bytes_eq a.value a.value ≡ true = (bytes_eq-Decides a.value a.value).1 refl in
    rw (s, l, v) refl

pub attribute_eq_tells : (a b : Attribute) → attribute_eq a b ≡ true → a ≡ b
attribute_eq_tells a b e =
    let p = and_parts _ _ e in
    let q = and_parts _ _ p.0 in
    let s = (bytes_eq-Decides a.name.space b.name.space).0 q.0 in
    let l = (bytes_eq-Decides a.name.local b.name.local).0 q.1 in
    let w = (bytes_eq-Decides a.value b.value).0 p.1 in
    λ i. record { name = record { space = s i; local = l i }; value = w i }

pub length-sorted : (xs : List Attribute) → length (sort_attributes xs) ≡ length xs
length-sorted xs = length-in_order attribute_order attribute_ranks xs

pub occurrences-sorted : (a : Attribute) (xs : List Attribute) → occurrences_of a (sort_attributes xs) ≡ occurrences_of a xs
occurrences-sorted a xs = count-in_order attribute_order attribute_ranks attribute_eq attribute_eq_itself attribute_eq_tells a xs

-- different lengths, or numbers of occurrences, show that two lists are not the same in order
pub not_same_lengths : (xs ys : List Attribute) → (length xs ≡ length ys → ⊥) → sort_attributes xs ≡ sort_attributes ys → ⊥
not_same_lengths xs ys other same = other (sym (length-sorted xs) ∙ ap length same ∙ length-sorted ys)

pub not_same_numbers : (a : Attribute) (xs ys : List Attribute) → (occurrences_of a xs ≡ occurrences_of a ys → ⊥)
    → sort_attributes xs ≡ sort_attributes ys → ⊥
not_same_numbers a xs ys other same = other (sym (occurrences-sorted a xs) ∙ ap (occurrences_of a) same ∙ occurrences-sorted a ys)

-- an attribute stands nowhere in a list, or at some place
nowhere_or_at : (a : Attribute) (xs : List Attribute) → (occurrences_of a xs ≡ 0)
    ⊎ ((k : ℕ) × (k < length xs) × ((d : Attribute) → get_or xs k d ≡ a))
nowhere_or_at a [] = inl refl
nowhere_or_at a (x ∷ xs) = elim (cases_Bool (attribute_eq x a)) [
  | inl e ↦ inr (0, omega arith, λ d. attribute_eq_tells x a e)
  | inr e ↦
      let none : cond {A = ℕ} (attribute_eq x a) 1 0 ≡ 0 = rw e refl in
      elim (nowhere_or_at a xs) [
        | inl n ↦ inl (omega (arith, sum_by-cons (λ y. cond (attribute_eq y a) 1 0) x xs))
        | inr p ↦ inr (suc p.0, omega arith, p.2)
      ]
]

-- lists of one length where each member of the first occurs as often in the second
pub same_members : (xs ys : List Attribute) → length xs ≡ length ys → All (λ a. occurrences_of a xs ≡ occurrences_of a ys) xs
    → sort_attributes xs ≡ sort_attributes ys
same_members xs ys long often = in_order_same attribute_order attribute_ranks attribute_eq attribute_eq_itself attribute_eq_tells xs ys
    long (λ a. fewer a)
  where
    fewer : (a : Attribute) → occurrences_of a xs ≤ occurrences_of a ys
    fewer a = elim (nowhere_or_at a xs) [
      | inl n ↦ omega arith
      | inr p ↦
          let h : occurrences_of a xs ≡ occurrences_of a ys = subst (λ b. occurrences_of b xs ≡ occurrences_of b ys) (p.2 a)
          (often p.0 a p.1) in
          omega arith
    ]

-- a permutation of the attributes that rises
pub rising_is_sorted : (xs ys : List Attribute) → IsPermutation xs ys
    → ((k : ℕ) (d : Attribute) → suc k < length ys → is_lt (attribute_order (get_or ys (suc k) d) (get_or ys k d)) ≡ false)
    → ys ≡ sort_attributes xs
rising_is_sorted xs ys p up =
    in_order_is attribute_order attribute_ranks attribute_eq attribute_eq_itself attribute_eq_tells xs ys p
    (λ k d l. not_greater_than (attribute_order (get_or ys k d) (get_or ys (suc k) d))
    (attribute_order (get_or ys (suc k) d) (get_or ys k d)) (attributes_total.antisymm (get_or ys k d) (get_or ys (suc k) d)) (up k d l))

-- how two attributes compare, as `<=` asks
abbrev compare_attributes : Attribute → Attribute → Option Ordering
compare_attributes a b =
    partial_ordering_then (partial_ordering_then (Some (slice_cmp nat_cmp a.name.space b.name.space))
    (Some (slice_cmp nat_cmp a.name.local b.name.local))) (Some (slice_cmp nat_cmp a.value b.value))

compared_is : (a b : Attribute) → compare_attributes a b ≡ Some (attribute_order a b)
compared_is a b =
    ap (λ o. partial_ordering_then o (Some (slice_cmp nat_cmp a.value b.value)))
    (Some-then (slice_cmp nat_cmp a.name.space b.name.space) (slice_cmp nat_cmp a.name.local b.name.local))
    ∙ Some-then (name_order a.name b.name) (slice_cmp nat_cmp a.value b.value)

-- attributes each of which is not greater than the next are in order
unmoved : (xs : List Attribute)
    → ((k : ℕ) (d : Attribute) → suc k < length xs → is_le (attribute_order (get_or xs k d) (get_or xs (suc k) d)) ≡ true)
    → sort_attributes xs ≡ xs
unmoved xs up =
    sym (rising_is_sorted xs xs (IsPermutation-refl xs) (λ k d l. within_not_less
    (attribute_order (get_or xs k d) (get_or xs (suc k) d)) (attribute_order (get_or xs (suc k) d) (get_or xs k d))
    (attributes_total.antisymm (get_or xs k d) (get_or xs (suc k) d)) (up k d l)))

-- where `<=` compares two by what both are
pub already_sorted : (xs : List Attribute) (r : Bool) → IsEachAdjacentAnswer (λ x y b. partial_le compare_attributes x y ≡ b) xs r
    → OnTrue r (sort_attributes xs ≡ xs)
already_sorted xs true up =
    unmoved xs (λ k d l.
    let a = get_or xs k d in
    let h : partial_le compare_attributes a (get_or xs (k + 1) d) ≡ true = (up k d (omega (arith, l))).1 in
    let g : partial_le compare_attributes a (get_or xs (suc k) d) ≡ true =
    subst (λ (n : ℕ). partial_le compare_attributes a (get_or xs n d) ≡ true) (add-one k) h in
    ap (λ o. is_some_and is_le o) (sym (compared_is a (get_or xs (suc k) d))) ∙ g)
already_sorted xs false up = tt

-- where it compares them by their order
pub sorted_already : (xs : List Attribute) (r : Bool) → IsEachAdjacentAnswer (λ x y b. is_le (attribute_order x y) ≡ b) xs r
    → OnTrue r (sort_attributes xs ≡ xs)
sorted_already xs true up =
    unmoved xs (λ k d l. subst (λ (n : ℕ). is_le (attribute_order (get_or xs k d) (get_or xs n d)) ≡ true) (add-one k)
    (up k d (omega (arith, l))).1)
sorted_already xs false up = tt

abbrev referred_values : List (Bor Attribute) → List Attribute
referred_values rs = map (λ (r : Bor Attribute). r.now) rs

rising_references : (ss : List (Bor Attribute)) → IsSorted (λ (x y : Bor Attribute). attribute_order x.now y.now) ss
    → (k : ℕ) (d : Attribute) → suc k < length (referred_values ss) → is_lt
    (attribute_order (get_or (referred_values ss) (suc k) d) (get_or (referred_values ss) k d)) ≡ false
rising_references [] up k d l = absurd (omega (arith, l))
rising_references (s ∷ ss) up k d l =
    let now : Bor Attribute → Attribute = λ (r : Bor Attribute). r.now in
    let long : suc k < length (s ∷ ss) = omega (arith, l, length-map (s ∷ ss) now) in
    let step : is_lt (attribute_order (now (get_or (s ∷ ss) (suc k) s)) (now (get_or (s ∷ ss) k s))) ≡ false = subst
    (λ (n : ℕ). is_lt (attribute_order (now (get_or (s ∷ ss) n s)) (now (get_or (s ∷ ss) k s))) ≡ false) (add-one k)
    (up k s (omega arith) (omega arith)) in
    let here : get_or (referred_values (s ∷ ss)) k d ≡ now (get_or (s ∷ ss) k s) = get_or-map now (s ∷ ss) k s d (omega arith) in
    let next : get_or (referred_values (s ∷ ss)) (suc k) d ≡ now (get_or (s ∷ ss) (suc k) s) = get_or-map now (s ∷ ss) (suc k) s d long in
    ap (λ a. is_lt (attribute_order a (get_or (referred_values (s ∷ ss)) k d))) next
    ∙ ap (λ a. is_lt (attribute_order (now (get_or (s ∷ ss) (suc k) s)) a)) here ∙ step

-- references that were put in order refer to the attributes in order
pub sorted_references : (rs ss : List (Bor Attribute)) → IsPermutation rs ss
    → IsSorted (λ (x y : Bor Attribute). attribute_order x.now y.now) ss → referred_values ss ≡ sort_attributes (referred_values rs)
sorted_references rs ss p up =
    rising_is_sorted (referred_values rs) (referred_values ss) (IsPermutation-map (λ (r : Bor Attribute). r.now) rs ss p)
    (rising_references ss up)

pub sorted_permutation : (xs : List Attribute) → IsPermutation xs (sort_attributes xs)
sorted_permutation xs = IsPermutation-in_order attribute_order attribute_ranks xs

pub sorted_rises : (xs : List Attribute) → IsSorted attribute_order (sort_attributes xs)
sorted_rises xs k d low high =
    let next : Attribute = get_or (sort_attributes xs) (suc k) d in
    let here : Attribute = get_or (sort_attributes xs) k d in
    let step : is_lt (attribute_order next here) ≡ false =
    not_less_than (attribute_order next here) (attribute_order here next) (attributes_total.antisymm next here)
    (in_order-rises attribute_order attribute_ranks xs k d (omega arith)) in
    subst (λ (n : ℕ). is_lt (attribute_order (get_or (sort_attributes xs) n d) here) ≡ false) (sym (add-one k)) step

pub one_order : (xs ys : List Attribute) → IsPermutation xs ys → sort_attributes xs ≡ sort_attributes ys
one_order xs ys p = in_order-permutation attribute_order attribute_ranks attribute_eq attribute_eq_itself attribute_eq_tells xs ys p
