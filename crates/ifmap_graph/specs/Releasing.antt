-- Shelves go that are empty, with the holds of their items' identifiers.
use Rattle.std.specs.Prelude.{◌≡◌, ◌≢◌, ◌+◌, ℕ, List, [], Some, IsSome}
use Rattle.slab.specs.Slab.{get}
use Rattle.ifmap_ident.specs.declared.identifiers.Identifier.{Identifier}
use Rattle.ifmap_ident.specs.declared.items.Item.{Item}
use Rattle.ifmap_ident.specs.Identifiers.{identifier_order}
use Rattle.ifmap_pool.specs.Holdings.{Holdings, IsHeld, Names}
use Rattle.ifmap_view.specs.declared.views.LinkSeen.{LinkSeen}
use Rattle.ifmap_view.specs.Rows.{stored_on}
use Rattle.ifmap_graph.specs.declared.shelves.Shelves.{Shelves}
use Rattle.ifmap_graph.specs.Drafted.{AreBare, ends_at}
use Rattle.ifmap_graph.specs.Inside.{IsInside}
use Rattle.ifmap_graph.specs.Named.{uses_in}
use Rattle.ifmap_graph.specs.Shelved.{slot_of_item, rows_on_side}
use Rattle.ifmap_graph.specs.Sides.{Sides, list_now}
use Rattle.ifmap_graph.specs.Waits.{waits_on}

-- the shelves that are left stand where they stood, with their numbers; what went was empty; others hold identifiers as often as before
pub record IsLess (names left : Holdings Identifier) (old new : Shelves) : Type 0 where
  pub inside : (links : List (Sides LinkSeen)) → IsInside names (get old.slots) old.places.entries links
      → IsInside left (get new.slots) new.places.entries links
  pub bare : AreBare old → AreBare new
  pub rows : rows_on_side list_now new ≡ rows_on_side list_now old
  pub before : (x : Item) (at : ℕ) → slot_of_item new x ≡ Some at → (slot_of_item old x ≡ Some at) × (ends_at new at ≡ ends_at old at)
  pub full : (x : Item) → stored_on x (rows_on_side list_now old) ≢ [] → slot_of_item new x ≡ slot_of_item old x
  pub named : (v : ℕ) (a : Identifier) → Names identifier_order left v a → Names identifier_order names v a
  pub own : (a : Identifier) (own : ℕ) → IsHeld identifier_order names a (uses_in old.places.entries a + own)
      → IsHeld identifier_order left a (uses_in new.places.entries a + own)

-- a shelf that nobody waits for has something on it
abbrev pub AreFilled : Shelves → Type 0
AreFilled s = (x : Item) → IsSome (slot_of_item s x) → waits_on s x ≡ 0 → stored_on x (rows_on_side list_now s) ≢ []
