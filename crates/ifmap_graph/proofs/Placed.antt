-- An item that has no shelf gets one that is empty: what is there then.
use Rattle.std.proofs.Common.{◌≡◌, ◌≢◌, ◌≤◌, ℕ, ◌+◌, cond, Some, None, List, [], ◌∷◌, length, refl, ap, ◌∙◌, subst, arith}
use Rattle.std.specs.BTreeMap.{insert_entry, is_at}
use Rattle.slab.specs.Slab.{get}
use Rattle.ifmap_ident.specs.declared.identifiers.Identifier.{Identifier}
use Rattle.ifmap_ident.specs.declared.items.Item.{Item}
use Rattle.ifmap_ident.specs.Identifiers.{identifier_order}
use Rattle.ifmap_ident.specs.Items.{IsCanonItem, item_order}
use Rattle.ifmap_pool.specs.Holdings.{Holdings, IsHeld}
use Rattle.ifmap_view.specs.declared.views.LinkSeen.{LinkSeen}
use Rattle.ifmap_graph.specs.declared.shelves.Shelf.{Shelf}
use Rattle.ifmap_graph.specs.declared.shelves.Shelves.{Shelves}
use Rattle.ifmap_graph.specs.Bringing.{BringsShelves}
use Rattle.ifmap_graph.specs.Drafted.{AreBare}
use Rattle.ifmap_graph.specs.Inside.{IsInside}
use Rattle.ifmap_graph.specs.Named.{HoldsEnds, uses_of, uses_in}
use Rattle.ifmap_graph.specs.Shelved.{AreShelved, ItemsRise, StoredSide, rows_on_side, slot_of_item}
use Rattle.ifmap_graph.specs.Sides.{Sides}
use Rattle.ifmap_graph.proofs.Arriving.{numbered_comes}
use Rattle.ifmap_graph.proofs.Brought.{bare_comes, brings_one}
use Rattle.ifmap_graph.proofs.Changed.{inside_comes}
use Rattle.ifmap_graph.proofs.Leaving.{comes}
use Rattle.ifmap_graph.proofs.Shelving.{is_placed, same_rows, still_used}

-- the shelf comes to a vacant slot, and the item to its place
pub record Places (s t : Shelves) (item : Item) (at : ℕ) (shelf : Shelf) : Type 0 where
  pub canon : IsCanonItem item
  pub none : slot_of_item s item ≡ None
  pub vacant : get s.slots at ≡ None
  pub has : get t.slots at ≡ Some shelf
  pub empty : shelf.stored ≡ record { now = []; draft = None }
  pub idle : shelf.waits ≡ 0
  pub others : (o : ℕ) → o ≢ at → get t.slots o ≡ get s.slots o
  pub entries : t.places.entries ≡ insert_entry item_order s.places.entries item at
  pub rises : ItemsRise t.places.entries
  pub updates : (x : Item) → slot_of_item t x ≡ cond (is_at (item_order item) x) (Some at) (slot_of_item s x)

module _ {s t : Shelves} {item : Item} {at : ℕ} {shelf : Shelf} (p : Places s t item at shelf) where
  module _ (is : AreShelved s) where
    pub placed_rows : (side : StoredSide) → side (record { now = []; draft = None }) ≡ [] → rows_on_side side t ≡ rows_on_side side s
    placed_rows =
        same_rows s.places.entries t.places.entries (get s.slots) (get t.slots) item at at shelf is p.canon p.none refl p.vacant p.has
        p.empty p.others p.entries p.rises

    pub placed_brings : BringsShelves (item ∷ []) s t
    placed_brings = brings_one s t item at shelf is p.none p.updates p.entries p.vacant p.has p.idle p.others

    pub placed_bare : AreBare s → AreBare t
    placed_bare bare = bare_comes s t item at shelf is bare p.none p.entries p.vacant p.has (ap (λ x. x.draft) p.empty) p.others

  -- its identifiers are held with it
  module _ {old new : Holdings Identifier} (h : HoldsEnds old new item shelf.ends) where
    pub placed_own : (a : Identifier) (own : ℕ) → IsHeld identifier_order old a (uses_in s.places.entries a + own)
        → IsHeld identifier_order new a (uses_in t.places.entries a + own)
    placed_own a own x =
        let more : uses_in t.places.entries a ≡ uses_of item a + uses_in s.places.entries a
        = ap (λ es. uses_in es a) p.entries ∙ comes s.places.entries item at a p.none
        in let count : (uses_in s.places.entries a + own) + uses_of item a ≡ uses_in t.places.entries a + own = omega (arith, more)
        in subst (λ (n : ℕ). IsHeld identifier_order new a n) count (h.held a (uses_in s.places.entries a + own) x)

    pub placed_inside : (links : List (Sides LinkSeen)) → new.limit ≤ length links
        → IsInside old (get s.slots) s.places.entries links → IsInside new (get t.slots) t.places.entries links
    placed_inside links room is =
        inside_comes old new (get s.slots) (get t.slots) s.places.entries t.places.entries links item at shelf is
        (is_placed s.places.entries t.places.entries (get s.slots) (get t.slots) item at at shelf is.placed p.canon p.none refl p.vacant
        p.has p.empty p.others p.entries p.rises)
        (still_used s.places.entries t.places.entries (get s.slots) (get t.slots) item at at shelf is.placed p.canon p.none refl p.vacant
        p.has p.empty p.others p.entries p.rises is.used)
        (numbered_comes old new h.kept s.places.entries t.places.entries (get s.slots) (get t.slots) item item at at shelf is.placed.live
        is.numbered p.none refl p.vacant p.has p.others p.entries refl h.numbered)
        h.whole (h.keys p.canon.identifiers is.keys) room h.held p.none p.entries p.vacant p.has p.empty p.others
