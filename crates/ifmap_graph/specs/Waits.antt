-- How often changes that are out name items.
use Rattle.std.specs.Prelude.{◌≡◌, ℕ, ◌+◌, ◌≤◌, List, [], ◌∷◌, Option, Some, None, if◌then◌else◌}
use Rattle.std.specs.BTreeMap.{is_at}
use Rattle.std.specs.Map.{lookup}
use Rattle.ifmap_ident.specs.declared.items.Item.{Item}
use Rattle.ifmap_ident.specs.Items.{item_order}
use Rattle.slab.specs.Slab.{get}
use Rattle.ifmap_graph.specs.declared.shelves.Shelf.{Shelf}
use Rattle.ifmap_graph.specs.declared.shelves.Shelves.{Shelves}

-- how often a shelf is waited for
abbrev pub waits_of : Option Shelf → ℕ
waits_of None = 0
waits_of (Some shelf) = shelf.waits

abbrev pub waits_there : (ℕ → Option Shelf) → Option ℕ → ℕ
waits_there look None = 0
waits_there look (Some at) = waits_of (look at)

-- how often an item is waited for
abbrev pub waits_at : (ℕ → Option Shelf) → List (Item × ℕ) → Item → ℕ
waits_at look entries x = waits_there look (lookup (is_at (item_order x)) entries)

abbrev pub waits_on : Shelves → Item → ℕ
waits_on s x = waits_at (get s.slots) s.places.entries x

-- how often an item is among some
abbrev pub times_in : List Item → Item → ℕ
times_in [] x = 0
times_in (i ∷ is) x = (if is_at (item_order i) x then 1 else 0) + times_in is x

-- each of these is waited for, as often as it is named
abbrev pub AreWaited : List Item → (Item → ℕ) → Type 0
AreWaited items waits = (x : Item) → times_in items x ≤ waits x

-- these items are waited for once more, and no others
abbrev pub WaitsFor : List Item → Shelves → Shelves → Type 0
WaitsFor items old new = (x : Item) → waits_on new x ≡ times_in items x + waits_on old x
