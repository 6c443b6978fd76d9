-- Items in order, each once.
use Rattle.std.proofs.Common.{◌≡◌, Bool, true, List, [], subst, sym}
use Rattle.std.proofs.lemmas.List.Filters.{dedup_is}
use Rattle.std.proofs.lemmas.List.Kept.{Any-dedup, Contains-from_dedup, IsStrictlySortedBy-dedup}
use Rattle.std.proofs.lemmas.List.Sorted.{Contains-permutation, IsPermutation-sym}
use Rattle.std.specs.List.{Any, Contains, dedup, list_any}
use Rattle.std.specs.List.Retain.{DiffersFromLast, IsFiltered}
use Rattle.std.specs.List.Sorted.{IsPermutation, IsSorted, IsStrictlySortedBy}
use Rattle.ifmap_ident.specs.declared.items.Item.{Item}
use Rattle.ifmap_ident.specs.Items.{item_order, items_tie, same_item}
use Rattle.ifmap_lemmas.specs.Having.{Has, from_has, has_any, has_from}
use Rattle.ifmap_ident.specs.SameLaws.{items_equiv, items_total}
use Rattle.ifmap_fresh.specs.Gathered.{has_item}

any_test : (p : Item → Bool) (xs : List Item) → Any (λ y. p y ≡ true) xs → list_any p xs ≡ true
any_test p xs a = has_any p xs a.1 (has_from xs a.1 (a.0, a.2, a.3)) a.4

module _ (old sorted new : List Item) (moved : IsPermutation old sorted) (in_order : IsSorted item_order sorted)
    (kept : IsFiltered (DiffersFromLast same_item) [] sorted new) where
  new_is : new ≡ dedup same_item sorted
  new_is = dedup_is same_item sorted new kept

  pub rises : IsStrictlySortedBy item_order new
  rises = subst (IsStrictlySortedBy item_order) (sym new_is) (IsStrictlySortedBy-dedup items_total items_tie sorted in_order)

  pub came_from : (x : Item) → Has new x → Has old x
  came_from x h =
      has_from old x (Contains-permutation sorted old x (IsPermutation-sym old sorted moved)
      (Contains-from_dedup same_item sorted x (subst (λ l. Contains l x) new_is (from_has new x h))))

  pub stays : (x : Item) → Has old x → has_item new x ≡ true
  stays x h =
      subst (λ l. has_item l x ≡ true) (sym new_is)
      (any_test (same_item x) (dedup same_item sorted) (Any-dedup items_equiv sorted x
      (Contains-permutation old sorted x moved (from_has old x h))))
