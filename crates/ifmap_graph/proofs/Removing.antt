-- An item's shelf is empty and is taken out of its slot, the item out of its place: what is there then.
use Rattle.std.proofs.Common.{◌≡◌, ◌≢◌, ℕ, ◌+◌, false, cond, Some, None, List, [], ◌∷◌, ap, ◌∙◌, sym}
use Rattle.std.proofs.lemmas.Option.{same_Some}
use Rattle.std.specs.BTreeMap.{is_at}
use Rattle.std.specs.Map.{remove_entry}
use Rattle.slab.specs.Slab.{get}
use Rattle.ifmap_ident.specs.declared.identifiers.Identifier.{Identifier}
use Rattle.ifmap_ident.specs.declared.items.Item.{Item}
use Rattle.ifmap_ident.specs.Identifiers.{identifier_order}
use Rattle.ifmap_ident.specs.Items.{IsItem, item_order}
use Rattle.ifmap_pool.specs.Holdings.{Holdings, IsHeld}
use Rattle.ifmap_view.specs.declared.views.LinkSeen.{LinkSeen}
use Rattle.ifmap_graph.specs.declared.shelves.Shelf.{Shelf}
use Rattle.ifmap_graph.specs.declared.shelves.Shelves.{Shelves}
use Rattle.ifmap_graph.specs.Bringing.{BringsShelves}
use Rattle.ifmap_graph.specs.Inside.{IsInside}
use Rattle.ifmap_graph.specs.Named.{AreEnds, LetsEndsGo, uses_in}
use Rattle.ifmap_graph.specs.Shelved.{HasEmptyShelf, IsPlaced, ItemsRise, StoredSide, list_at, rows_on_side, slot_of_item}
use Rattle.ifmap_graph.specs.Sides.{Sides}
use Rattle.ifmap_graph.specs.Waits.{waits_on}
use Rattle.ifmap_graph.proofs.Brought.{brings_taken}
use Rattle.ifmap_graph.proofs.Changed.{entry_there, inside_goes, its_ends, its_order, own_stays}
use Rattle.ifmap_graph.proofs.Gone.{stays_there, was_there}
use Rattle.ifmap_graph.proofs.Leaving.{same_rows}

-- the shelf in the slot of an item that has an empty one
pub empty_there : (s : Shelves) (item : Item) (at : ℕ) → HasEmptyShelf s item → slot_of_item s item ≡ Some at
    → (shelf : Shelf) × (get s.slots at ≡ Some shelf) × (shelf.stored ≡ record { now = []; draft = None })
empty_there s item at has here = (has.1, ap (get s.slots) (same_Some _ _ (sym here ∙ has.2)) ∙ has.3, has.4)

pub empty_shelf : (s : Shelves) (item : Item) (at : ℕ) (shelf : Shelf) → HasEmptyShelf s item → slot_of_item s item ≡ Some at
    → get s.slots at ≡ Some shelf → shelf.stored ≡ record { now = []; draft = None }
empty_shelf s item at shelf has here there =
    let e = empty_there s item at has here
    in ap (λ (x : Shelf). x.stored) (same_Some _ _ (sym there ∙ e.1)) ∙ e.2

-- the item and its shelf go
pub record Removes (s t : Shelves) (item : Item) (at : ℕ) (shelf : Shelf) : Type 0 where
  pub here : slot_of_item s item ≡ Some at
  pub there : get s.slots at ≡ Some shelf
  pub empty : shelf.stored ≡ record { now = []; draft = None }
  pub gone : get t.slots at ≡ None
  pub others : (o : ℕ) → o ≢ at → get t.slots o ≡ get s.slots o
  pub entries : t.places.entries ≡ remove_entry (is_at (item_order item)) s.places.entries
  pub rises : ItemsRise t.places.entries
  pub updates : (x : Item) → slot_of_item t x ≡ cond (is_at (item_order item) x) None (slot_of_item s x)

module _ {s t : Shelves} {item : Item} {at : ℕ} {shelf : Shelf} (r : Removes s t item at shelf) where
  -- the other shelves stand where they stood
  module _ (is : IsPlaced (get s.slots) s.places.entries) where
    pub removed_before : (x : Item) (n : ℕ) → slot_of_item t x ≡ Some n
        → (slot_of_item s x ≡ Some n) × (get t.slots n ≡ get s.slots n)
    removed_before =
        was_there s.places.entries t.places.entries (get s.slots) (get t.slots) item at is r.here r.gone r.others r.entries r.rises

    pub removed_others : (x : Item) → is_at (item_order item) x ≡ false → slot_of_item t x ≡ slot_of_item s x
    removed_others =
        stays_there s.places.entries t.places.entries (get s.slots) (get t.slots) item at is r.here r.gone r.others r.entries r.rises

    pub removed_rows : (side : StoredSide) → side (record { now = []; draft = None }) ≡ [] → rows_on_side side t ≡ rows_on_side side s
    removed_rows side none =
        same_rows s.places.entries t.places.entries (get s.slots) (get t.slots) item at is r.here r.gone r.others r.entries r.rises side
        (ap (list_at side) r.there ∙ ap side r.empty ∙ none)

    pub removed_brings : waits_on s item ≡ 0 → BringsShelves (item ∷ []) t s
    removed_brings zero = brings_taken s t item at r.here r.updates r.entries (λ x n e. (removed_before x n e).1) zero

  -- the identifiers of the shelf are those of an item
  module _ (old : Holdings Identifier) (links : List (Sides LinkSeen)) (is : IsInside old (get s.slots) s.places.entries links) where
    pub removed_ends : (i : Item) × IsItem i × AreEnds old i shelf.ends
    removed_ends = (
      (entry_there old old (get s.slots) (get s.slots) s.places.entries s.places.entries links item at shelf is r.here r.there
          r.empty).0,
      its_order old old (get s.slots) (get s.slots) s.places.entries s.places.entries links item at shelf is r.here r.there r.empty,
      its_ends old old (get s.slots) (get s.slots) s.places.entries s.places.entries links item at shelf is r.here r.there r.empty,
    )

    -- once they are let go, all is in order, and others hold what they held
    module _ {new : Holdings Identifier} (go : LetsEndsGo old new shelf.ends) where
      pub removed_inside : IsInside new (get t.slots) t.places.entries links
      removed_inside =
          inside_goes old new (get s.slots) (get t.slots) s.places.entries t.places.entries links item at shelf is r.here r.there r.empty
          r.gone r.others r.entries r.rises go.whole (go.keys is.keys) go.before go.held

      pub removed_own : (a : Identifier) (own : ℕ) → IsHeld identifier_order old a (uses_in s.places.entries a + own)
          → IsHeld identifier_order new a (uses_in t.places.entries a + own)
      removed_own =
          own_stays old new (get s.slots) (get t.slots) s.places.entries t.places.entries links item at shelf is r.here r.there r.empty
          r.gone r.others r.entries r.rises go.whole (go.keys is.keys) go.before go.held
