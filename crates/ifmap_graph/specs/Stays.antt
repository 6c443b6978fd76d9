-- Shelves that stay where they are.
use Rattle.std.specs.Prelude.{◌≡◌, ◌≢◌, ◌<◌, ℕ, [], Option, None, Some, option_map}
use Rattle.std.specs.BTreeMap.{is_at}
use Rattle.std.specs.Map.{lookup}
use Rattle.ifmap_ident.specs.declared.items.Item.{Item}
use Rattle.ifmap_ident.specs.Items.{item_order}
use Rattle.ifmap_view.specs.Rows.{stored_on}
use Rattle.ifmap_graph.specs.declared.ends.ItemEnds.{ItemEnds}
use Rattle.ifmap_graph.specs.declared.shelves.Shelf.{Shelf}
use Rattle.ifmap_graph.specs.Inside.{GraphInside}
use Rattle.ifmap_graph.specs.Seen.{rows_now, waits_in}

-- the slot of an item's shelf
abbrev pub place_in : GraphInside → Item → Option ℕ
place_in h x = lookup (is_at (item_order x)) h.places

-- the numbers that the shelf of an item has
abbrev pub ends_there_in : Option (Option Shelf) → Option ItemEnds
ends_there_in None = None
ends_there_in (Some shelf) = option_map (λ s. s.ends) shelf

abbrev pub ends_in : GraphInside → Item → Option ItemEnds
ends_in h x = ends_there_in (lookup (is_at (item_order x)) h.shelves)

-- the shelf of an item is in the same slot, and has the same numbers
abbrev pub HasSameShelf : GraphInside → GraphInside → Item → Type 0
HasSameShelf old new x = (place_in new x ≡ place_in old x) × (ends_in new x ≡ ends_in old x)

-- shelves stay where they are, with their numbers: those of items that are waited for before and after, and those that have something
pub record StayPlaced (old new : GraphInside) : Type 0 where
  pub waited : (x : Item) → 0 < waits_in old x → 0 < waits_in new x → HasSameShelf old new x
  pub full : (x : Item) → stored_on x (rows_now old) ≢ [] → stored_on x (rows_now new) ≢ [] → HasSameShelf old new x
