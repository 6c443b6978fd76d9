-- Attributes in order.
use Rattle.std.proofs.Common.{◌≡◌, ℕ, List, Bool, false, cond, ◌&&◌, sym, ◌∙◌, subst, arith, get_or, add-one}
use Rattle.std.proofs.lemmas.List.Sums.{length-filter}
use Rattle.std.proofs.lemmas.List.Sorted.{IsPermutation-refl, ranks_by, sum_by-IsPermutation}
use Rattle.std.proofs.lemmas.List.Kept.{IsSortedBy-filter}
use Rattle.std.specs.List.{filter}
use Rattle.std.specs.List.Sorted.{IsPermutation, IsSorted}
use Rattle.std.specs.Ordering.{is_lt}
use Rattle.ifmap_elem.specs.Arranged.{attribute_order, sort_attributes}
use Rattle.ifmap_elem.specs.printer.Occurrences.{attribute_eq}
use Rattle.ifmap_elem.specs.declared.elements.Attribute.{Attribute}
use Rattle.ifmap_lemmas.specs.Filters.{count_filter}
use Rattle.ifmap_elem.specs.laws.AttributeOrder.{attribute_ranks, attributes_total, attribute_eq_itself, attribute_eq_tells, rising_is_sorted, sorted_permutation, sorted_rises}
use Rattle.ifmap_lemmas.specs.Sorting.{in_order_same}

-- a permutation of the attributes as a sort leaves it
pub sorted-by_sort : (xs ys : List Attribute) → IsPermutation xs ys → IsSorted attribute_order ys → ys ≡ sort_attributes xs
sorted-by_sort xs ys p up =
    rising_is_sorted xs ys p
    (λ k d l. subst (λ (n : ℕ). is_lt (attribute_order (get_or ys n d) (get_or ys k d)) ≡ false) (add-one k)
    (up k d (omega arith) (omega arith)))

-- what passes a test among permuted attributes has one order
sorted_filter : (p : Attribute → Bool) (xs ys : List Attribute) → IsPermutation xs ys
    → sort_attributes (filter p xs) ≡ sort_attributes (filter p ys)
sorted_filter p xs ys h =
    in_order_same attribute_order attribute_ranks attribute_eq attribute_eq_itself attribute_eq_tells (filter p xs) (filter p ys)
    (omega (arith, length-filter p xs, length-filter p ys, sum_by-IsPermutation (λ x. cond (p x) 1 0) xs ys h))
    (λ z. omega (
      arith,
      count_filter (λ x. attribute_eq x z) p xs,
      count_filter (λ x. attribute_eq x z) p ys,
      sum_by-IsPermutation
          (λ x. cond (p x && attribute_eq x z) 1 0) xs ys h,
    ))

-- what passes a test among attributes in order is in order
pub filter_sorted : (p : Attribute → Bool) (xs : List Attribute) → filter p (sort_attributes xs) ≡ sort_attributes (filter p xs)
filter_sorted p xs =
    let passing = filter p (sort_attributes xs) in
    sorted-by_sort passing passing (IsPermutation-refl passing) (IsSortedBy-filter
    (λ a b. is_lt (attribute_order a b)) (ranks_by attributes_total (λ (a : Attribute). a)) p (sort_attributes xs) (sorted_rises xs))
    ∙ sym (sorted_filter p xs (sort_attributes xs) (sorted_permutation xs))
