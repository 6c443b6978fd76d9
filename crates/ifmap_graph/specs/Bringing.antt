-- Shelves that come for items that had none: they are empty, and nobody waits for them.
use Rattle.std.specs.Prelude.{◌≡◌, ◌<◌, ◌≤◌, ◌^◌, ◌+◌, ℕ, Bool, false, List, [], ◌∷◌, Some, None, IsSome, length, if◌then◌else◌}
use Rattle.std.specs.BTreeMap.{is_at}
use Rattle.std.specs.List.{AllByRecursion}
use Rattle.slab.specs.Slab.{get}
use Rattle.ifmap_ident.specs.declared.identifiers.Identifier.{Identifier}
use Rattle.ifmap_ident.specs.declared.items.Item.{Item}
use Rattle.ifmap_ident.specs.Identifiers.{identifier_order}
use Rattle.ifmap_ident.specs.Items.{IsCanonItem, item_order}
use Rattle.ifmap_pool.specs.Holdings.{Holdings, IsHeld, Names}
use Rattle.ifmap_view.specs.declared.views.LinkSeen.{LinkSeen}
use Rattle.ifmap_graph.specs.declared.shelves.Shelves.{Shelves}
use Rattle.ifmap_graph.specs.Drafted.{AreBare, ends_at}
use Rattle.ifmap_graph.specs.Inside.{IsInside}
use Rattle.ifmap_graph.specs.Named.{uses_of, uses_in}
use Rattle.ifmap_graph.specs.Shelved.{slot_of_item, rows_on_side}
use Rattle.ifmap_graph.specs.Sides.{Sides, list_next, list_now}
use Rattle.ifmap_graph.specs.Turning.{sides_at}
use Rattle.ifmap_graph.specs.Waits.{waits_on}

-- the items that are flagged
abbrev pub flagged_items : List Item → List Bool → List Item
flagged_items [] flags = []
flagged_items (x ∷ xs) [] = []
flagged_items (x ∷ xs) (f ∷ fs) = if f then x ∷ flagged_items xs fs else flagged_items xs fs

-- how often items name an identifier
abbrev pub uses_by : List Item → Identifier → ℕ
uses_by [] a = 0
uses_by (i ∷ is) a = uses_of i a + uses_by is a

-- an item is none of these
abbrev pub IsOther : List Item → Item → Type 0
IsOther items x = AllByRecursion (λ i. is_at (item_order i) x ≡ false) items

-- these items had no shelf and have one, that nobody waits for; all else that is said of shelves but for their lists is as it was
pub record BringsShelves (items : List Item) (old new : Shelves) : Type 0 where
  pub absent : AllByRecursion (λ i. slot_of_item old i ≡ None) items
  pub there : AllByRecursion (λ i. IsSome (slot_of_item new i)) items
  pub places : (x : Item) → IsOther items x → slot_of_item new x ≡ slot_of_item old x
  pub ends : (x : Item) (at : ℕ) → slot_of_item old x ≡ Some at → ends_at new at ≡ ends_at old at
  pub waits : (x : Item) → waits_on new x ≡ waits_on old x
  pub named : (a : Identifier) → uses_in new.places.entries a ≡ uses_by items a + uses_in old.places.entries a

-- the fields of a graph
pub record GraphFields : Type 0 where
  pub names : Holdings Identifier
  pub shelves : Shelves
  pub links : List (Sides LinkSeen)

abbrev pub graph_fields : Holdings Identifier → Shelves → List (Sides LinkSeen) → GraphFields
graph_fields n s l = record { names = n; shelves = s; links = l }

abbrev pub AreInside : GraphFields → Type 0
AreInside p = IsInside p.names (get p.shelves.slots) p.shelves.places.entries p.links

-- others than items hold an identifier so often
abbrev pub HasOwn : GraphFields → Identifier → ℕ → Type 0
HasOwn p a own = IsHeld identifier_order p.names a (uses_in p.shelves.places.entries a + own)

-- and that is fewer than 2^32 times
abbrev pub HaveFewOwn : GraphFields → Type 0
HaveFewOwn p = (a : Identifier) → (own : ℕ) × HasOwn p a own × (own < 2 ^ 32)

-- a shelf may come for the item
pub record CanPlace (p : GraphFields) (item : Item) : Type 0 where
  pub inside : AreInside p
  pub canon : IsCanonItem item
  pub few : HaveFewOwn p

-- there are numbers and room for more, and what is stored and drafted is as before
pub record AreGrown (old new : GraphFields) : Type 0 where
  pub inside : AreInside new
  pub now : rows_on_side list_now new.shelves ≡ rows_on_side list_now old.shelves
  pub next : rows_on_side list_next new.shelves ≡ rows_on_side list_next old.shelves
  pub bare : AreBare old.shelves → AreBare new.shelves
  pub links : (v : ℕ) → sides_at new.links v ≡ sides_at old.links v
  pub longer : length old.links ≤ length new.links
  pub kept : (v : ℕ) (a : Identifier) → Names identifier_order old.names v a → Names identifier_order new.names v a
  pub own : (a : Identifier) (own : ℕ) → HasOwn old a own → HasOwn new a own
