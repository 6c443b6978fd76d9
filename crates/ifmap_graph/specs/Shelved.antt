-- Shelves by item: a map from items to slots, and the slots. An empty shelf adds nothing to the attachments.
use Rattle.std.specs.Prelude.{◌≡◌, ℕ, List, [], map, flat_map, Option, Some, None, IsSome, nat_eq}
use Rattle.std.specs.BTreeMap.{is_at}
use Rattle.std.specs.List.{AllByRecursion, IsDistinct}
use Rattle.std.specs.List.Sorted.{IsStrictlySortedBy}
use Rattle.std.specs.Map.{lookup}
use Rattle.slab.specs.Slab.{get}
use Rattle.ifmap_ident.specs.declared.items.Item.{Item}
use Rattle.ifmap_ident.specs.Items.{IsCanonItem, item_order}
use Rattle.ifmap_meta.specs.declared.stored.Stored.{Stored}
use Rattle.ifmap_view.specs.Attachments.{row_on}
use Rattle.ifmap_view.specs.declared.attachments.Attachment.{Attachment}
use Rattle.ifmap_graph.specs.declared.shelves.Shelf.{Shelf}
use Rattle.ifmap_graph.specs.declared.shelves.Shelves.{Shelves}
use Rattle.ifmap_graph.specs.Sides.{Sides}

-- the attachments of entries, each of which has a list on its item
abbrev pub rows_by : {X : Type 0} → (X → List Stored) → List (Item × X) → List Attachment
rows_by list_of es = flat_map (λ e. map (row_on e.0) (list_of e.1)) es

-- the items of entries rise
abbrev pub ItemsRise : {X : Type 0} → List (Item × X) → Type 0
ItemsRise es = IsStrictlySortedBy item_order (map (λ e. e.0) es)

-- a side of two lists: the list as it is, or as it is to be
abbrev pub StoredSide : Type 0
StoredSide = Sides Stored → List Stored

-- what a shelf has on a side
abbrev pub list_at : StoredSide → Option Shelf → List Stored
list_at side None = []
list_at side (Some shelf) = side shelf.stored

-- the attachments on a side
abbrev pub rows_on_side : StoredSide → Shelves → List Attachment
rows_on_side side s = rows_by (λ at. list_at side (get s.slots at)) s.places.entries

-- the slot of an item
abbrev pub slot_of_item : Shelves → Item → Option ℕ
slot_of_item s item = lookup (is_at (item_order item)) s.places.entries

-- the shelf of an item has a draft
abbrev pub HasDraft : Shelves → Item → Type 0
HasDraft s item = (at : ℕ) × (shelf : Shelf) × (slot_of_item s item ≡ Some at) × (get s.slots at ≡ Some shelf) × IsSome shelf.stored.draft

-- the shelf of an item has none
abbrev pub HasNoDraft : Shelves → Item → Type 0
HasNoDraft s item = (at : ℕ) × (shelf : Shelf) × (slot_of_item s item ≡ Some at) × (get s.slots at ≡ Some shelf) ×
    (shelf.stored.draft ≡ None)

-- the shelf of an item is empty, with no draft
abbrev pub HasEmptyShelf : Shelves → Item → Type 0
HasEmptyShelf s item =
    (at : ℕ) × (shelf : Shelf) × (slot_of_item s item ≡ Some at) × (get s.slots at ≡ Some shelf)
    × (shelf.stored ≡ record { now = []; draft = None })

-- each item has a shelf, no two have one, and items are such as elements mean
pub record IsPlaced (look : ℕ → Option Shelf) (entries : List (Item × ℕ)) : Type 0 where
  pub rising : ItemsRise entries
  pub canon : AllByRecursion (λ e. IsCanonItem e.0) entries
  pub live : AllByRecursion (λ e. IsSome (look e.1)) entries
  pub apart : IsDistinct nat_eq (map (λ e. e.1) entries)

abbrev pub AreShelved : Shelves → Type 0
AreShelved s = IsPlaced (get s.slots) s.places.entries
