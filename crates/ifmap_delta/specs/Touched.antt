-- The items on which a change may tell something, as they are gathered. No public clause cites this
-- module.
use Rattle.std.specs.Prelude.{◌≡◌, ℕ, Bool, true, false, ◌&&◌, ◌||◌, not, List, [], ◌++◌, length, map, Option, None, Some}
use Rattle.std.specs.Prelude.{drop, is_some, if◌then◌else◌, option_and_then, slice_get}
use Rattle.std.specs.List.{filter, filter_map, flat_map}
use Rattle.std.specs.List.Sorted.{IsStrictlySortedBy}
use Rattle.std.proofs.Math.Bool.{beq}
use Rattle.ifmap_filter.specs.declared.filters.Filter.{Filter}
use Rattle.ifmap_filter.specs.Meets.{meets_optional}
use Rattle.ifmap_ident.specs.declared.items.Item.{Item}
use Rattle.ifmap_ident.specs.Items.{IsCanonItem, item_order}
use Rattle.ifmap_lemmas.specs.Having.{Has}
use Rattle.ifmap_meta.specs.declared.stored.Stored.{Stored}
use Rattle.ifmap_plans.specs.declared.plans.ItemChange.{ItemChange}
use Rattle.ifmap_plans.specs.Plans.{change_of, list_after}
use Rattle.ifmap_search.specs.declared.results.Entry.{Entry}
use Rattle.ifmap_search.specs.declared.searches.Search.{Search}
use Rattle.ifmap_view.specs.declared.attachments.Attachment.{Attachment}
use Rattle.ifmap_view.specs.declared.views.LinkSeen.{LinkSeen}
use Rattle.ifmap_view.specs.Attachments.{stored_order}
use Rattle.ifmap_view.specs.Rows.{stored_on}
use Rattle.std.specs.Ordering.{eq_by_cmp}
use Rattle.std.specs.List.{list_any}
use Rattle.ifmap_fresh.specs.Items.{item_alone, pair_at}
use Rattle.ifmap_fresh.specs.Fresh.{is_looked_at}
use Rattle.ifmap_fresh.specs.Gathered.{stored_entry, has_item}
use Rattle.ifmap_fresh.specs.Linking.{end_where}
use Rattle.ifmap_delta.specs.Shown.{goes_on}
use Rattle.ifmap_delta.specs.SeenViews.{ViewSeen}
use Rattle.ifmap_delta.specs.declared.pairing.TouchedItem.{TouchedItem}

-- the items of a plan's changes that pass a test
abbrev pub planned_items : (Item → Bool) → List ItemChange → List Item
planned_items p changes = map (λ c. c.item) (filter (λ c. p c.item) changes)

-- the search looks at the item before or afterwards
abbrev pub is_looked_at_either : ViewSeen → ViewSeen → Search → Item → Bool
is_looked_at_either old new s x = is_looked_at old.rows s x || is_looked_at new.rows s x

module _ (new : ViewSeen) (s : Search) where
  -- the item of a link, where there is one
  abbrev pub link_item : ℕ → Option LinkSeen → Option Item
  link_item v seen =
      option_and_then (λ (w : ℕ). pair_at (new.id_at v) (new.id_at w)) (end_where new.rows new.id_at s.match_links v seen)

  -- the items of the matching links of a number
  abbrev pub linked_items : ℕ → List Item
  linked_items v = filter_map (λ seen. link_item v (Some seen)) (new.links v)

  -- walks go on from the number with one of the marks alone
  abbrev pub turns : ℕ → Option ℕ → Option ℕ → Bool
  turns v was now = not (beq (goes_on s (new.id_at v) was) (goes_on s (new.id_at v) now))

  -- how many links are looked at of a number whose mark changes
  abbrev pub looked_along : ℕ → Option ℕ → Option ℕ → ℕ
  looked_along v was now = if turns v was now then length (new.links v) else 0

  -- the items that a number brings whose mark changes: its own, where it has just one of the marks,
  -- and those of its links, where walks go on from it with one of them alone
  abbrev pub brought_items : ℕ → Option ℕ → Option ℕ → List Item
  brought_items v was now =
      (if not (beq (is_some was) (is_some now)) then item_alone (new.id_at v) else [])
      ++ (if turns v was now then linked_items v else [])

  -- the items that some numbers bring
  abbrev pub moved_items : (ℕ → Option ℕ) → (ℕ → Option ℕ) → List ℕ → List Item
  moved_items was now numbers = flat_map (λ v. brought_items v (was v) (now v)) numbers

-- an item tells nothing: the search looks at it before and afterwards with the same stored on it,
-- or at neither
pub record HasNothingToTell (old new : ViewSeen) (s : Search) (x : Item) : Type 0 where
  pub looked : is_looked_at old.rows s x ≡ is_looked_at new.rows s x
  pub stored : is_looked_at old.rows s x ≡ true → stored_on x old.rows ≡ stored_on x new.rows

-- items in order, which elements mean; all others tell nothing
pub record AreTouched (old new : ViewSeen) (s : Search) (items : List Item) : Type 0 where
  pub rising : IsStrictlySortedBy item_order items
  pub canon : (x : Item) → Has items x → IsCanonItem x
  pub others : (x : Item) → IsCanonItem x → has_item items x ≡ false → HasNothingToTell old new s x

-- the items of some, without what the plan does to them
abbrev pub items_touched : List TouchedItem → List Item
items_touched touched = map (λ t. t.item) touched

-- an item with no change beside it
abbrev pub with_no_place : Item → TouchedItem
with_no_place x = record { item = x; place = None }

-- the change at a place, where there is one
abbrev pub change_at : List ItemChange → Option ℕ → Option ItemChange
change_at changes None = None
change_at changes (Some i) = slice_get changes i

-- the change at the place beside the item is the first that is of it, among those from a place on; without a place there is none
abbrev pub IsPaired : List ItemChange → ℕ → TouchedItem → Type 0
IsPaired changes from t = change_of (drop from changes) t.item ≡ change_at changes t.place

-- what is stored on the item afterwards is what the change beside it makes of what was stored before
abbrev pub IsChanged : List Attachment → List Attachment → List ItemChange → TouchedItem → Type 0
IsChanged before after changes t =
    stored_on t.item after ≡ list_after (change_at changes t.place) (stored_on t.item before)

-- what of some rows has the canonical bytes of one of these
abbrev pub rows_touched_by : List Stored → List Stored → List Stored
rows_touched_by these rows = filter (λ t. list_any (λ r. eq_by_cmp stored_order r t) these) rows

-- one of the rows has the canonical bytes of what is stored, and meets the filter
abbrev pub has_met : Option Filter → List Stored → Stored → Bool
has_met filter_by rows t =
    list_any (λ o. eq_by_cmp stored_order o t && meets_optional filter_by o.element) rows

-- what of these meets the filter, and of whose canonical bytes none of the others is that meets it,
-- as entries of an item
abbrev pub surplus : Option Filter → Item → List Stored → List Stored → List Entry
surplus filter_by x these others =
    map (stored_entry x)
    (filter (λ t. meets_optional filter_by t.element && not (has_met filter_by others t)) these)

-- what the first shows of some items, and the other does not
abbrev pub surplus_on : Option Filter → (Item → List Stored) → (Item → List Stored) → List Item
    → List Entry
surplus_on filter_by one other items = flat_map (λ x. surplus filter_by x (one x) (other x)) items
