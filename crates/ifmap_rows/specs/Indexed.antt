-- An index of rows by the words of their keys.
use Rattle.std.specs.Prelude.{List, ◌++◌, not}
use Rattle.std.specs.List.{filter}
use Rattle.std.specs.List.Sorted.{IsPermutation, IsStrictlySortedBy}
use Rattle.std.specs.Ordering.{eq_by_cmp, nat_cmp, on, then_cmp}
use Rattle.std.specs.declared.cmp.Ordering.{Ordering}
use Rattle.ifmap_lemmas.specs.Having.{Has}
use Rattle.ifmap_meta.specs.declared.stored.Stored.{Stored}
use Rattle.ifmap_plans.specs.Lists.{list_without}
use Rattle.ifmap_plans.specs.ifmap_view.Attachments.{stored_order}
use Rattle.ifmap_meta.specs.Keys.{word_of}

-- the order of the index: by the words of the keys, and for one word by the canonical bytes
abbrev pub word_order : Stored → Stored → Ordering
word_order = then_cmp (on word_of nat_cmp) stored_order

-- without what is equal to this one in an order
abbrev pub without_one : {X : Type 0} → (X → X → Ordering) → X → List X → List X
without_one order a xs = filter (λ x. not (eq_by_cmp order a x)) xs

-- the rows rise, the index rises by words, and each has what the other has
pub record IsIndexed (rows index : List Stored) : Type 0 where
  pub rising : IsStrictlySortedBy stored_order rows
  pub worded : IsStrictlySortedBy word_order index
  pub there : (s : Stored) → Has index s → Has rows s
  pub back : (s : Stored) → Has rows s → Has index s

-- an index after rows came, in place of those of the same canonical bytes
pub record IsJoined (index added next : List Stored) : Type 0 where
  pub worded : IsStrictlySortedBy word_order next
  pub made : IsPermutation (list_without added index ++ added) next
