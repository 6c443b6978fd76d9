-- Changes of a graph, item by item.
use Rattle.std.specs.Prelude.{◌≡◌, ◌≢◌, List, [], ◌++◌, map, Option, Some, None}
use Rattle.std.specs.List.{AllByRecursion, IsDistinct, find}
use Rattle.std.specs.List.Sorted.{IsStrictlySortedBy}
use Rattle.ifmap_ident.specs.declared.items.Item.{Item}
use Rattle.ifmap_ident.specs.Items.{IsCanonItem, same_item}
use Rattle.ifmap_lemmas.specs.Having.{Has}
use Rattle.ifmap_meta.specs.declared.stored.Stored.{Stored}
use Rattle.ifmap_meta.specs.Whole.{IsWhole}
use Rattle.ifmap_view.specs.declared.attachments.Attachment.{Attachment}
use Rattle.ifmap_view.specs.Attachments.{stored_order}
use Rattle.ifmap_view.specs.Rows.{stored_on}
use Rattle.ifmap_plans.specs.declared.plans.ItemChange.{ItemChange}
use Rattle.ifmap_plans.specs.Lists.{IsList, stored_difference, next_on}

-- the change of an item, where there is one
abbrev pub change_of : List ItemChange → Item → Option ItemChange
change_of changes x = find (λ c. same_item c.item x) changes

-- what is stored on an item after its change, or as before where there is none
abbrev pub list_after : Option ItemChange → List Stored → List Stored
list_after None stored = stored
list_after (Some c) stored = next_on c.removed c.added stored

-- what is stored on an item after these changes, of what is stored there before
abbrev pub after_on : List ItemChange → Item → List Stored → List Stored
after_on changes x stored = list_after (change_of changes x) stored

-- what is stored is whole everywhere
abbrev pub AreWhole : List Attachment → Type 0
AreWhole rows = AllByRecursion (λ r. IsWhole r.stored) rows

-- a change takes something or puts something
abbrev pub IsChange : ItemChange → Type 0
IsChange c = c.removed ++ c.added ≢ []

-- the attachments after these changes of those before, item by item
abbrev pub IsAfter : List ItemChange → List Attachment → List Attachment → Type 0
IsAfter changes before after = (x : Item) → stored_on x after ≡ after_on changes x (stored_on x before)

-- a change can be made: its item is one that elements are, what goes is there and told in order, what comes is whole, and what is stored
-- then
-- is in order with its keys apart
pub record FitsItem (rows : List Attachment) (c : ItemChange) : Type 0 where
  pub canon : IsCanonItem c.item
  pub order : IsStrictlySortedBy stored_order c.removed
  pub there : AllByRecursion (λ s. Has (stored_on c.item rows) s) c.removed
  pub whole : AllByRecursion IsWhole c.added
  pub list : IsList (next_on c.removed c.added (stored_on c.item rows))

-- changes can be made together: each can, and no item has two
pub record Fits (rows : List Attachment) (changes : List ItemChange) : Type 0 where
  pub apart : IsDistinct same_item (map (λ c. c.item) changes)
  pub each : AllByRecursion (FitsItem rows) changes

-- changes tell what goes and what comes, and nothing that stays: each list is all that is in one state of the item and not in
-- the other
abbrev pub AreExact : List Attachment → List Attachment → List ItemChange → Type 0
AreExact before after changes = AllByRecursion (λ c.
    (c.removed ≡ stored_difference (stored_on c.item before) (stored_on c.item after))
    × (c.added ≡ stored_difference (stored_on c.item after) (stored_on c.item before))) changes
