-- A change comes to be out, and what is left where it does not.
use Rattle.std.specs.Prelude.{◌≡◌, ◌≤◌, ℕ, List, [], Some, None, length, IsSome}
use Rattle.std.specs.List.{AllByRecursion}
use Rattle.ifmap_ident.specs.declared.identifiers.Identifier.{Identifier}
use Rattle.ifmap_ident.specs.declared.items.Item.{Item}
use Rattle.ifmap_ident.specs.Identifiers.{identifier_order}
use Rattle.ifmap_plans.specs.declared.plans.ItemChange.{ItemChange}
use Rattle.ifmap_plans.specs.Plans.{IsAfter, Fits}
use Rattle.ifmap_pool.specs.Holdings.{Names, Holdings}
use Rattle.ifmap_view.specs.declared.views.LinkSeen.{LinkSeen}
use Rattle.ifmap_graph.specs.Bringing.{AreInside, BringsShelves, GraphFields, HasOwn, IsOther}
use Rattle.ifmap_graph.specs.Drafted.{AreBare, AreOut, DraftsWithin, ends_at}
use Rattle.ifmap_graph.specs.Out.{items_changed}
use Rattle.ifmap_graph.specs.Shelved.{AreShelved, slot_of_item, rows_on_side}
use Rattle.ifmap_graph.specs.Sides.{list_next, list_now, Sides}
use Rattle.ifmap_graph.specs.Touched.{AreExactlyDrafted, KeepsLinks}
use Rattle.ifmap_graph.specs.Turning.{sides_at}
use Rattle.ifmap_graph.specs.Waits.{WaitsFor}
use Rattle.slab.specs.Slab.{get}
use Rattle.ifmap_graph.specs.Inside.{IsInside}
use Rattle.ifmap_graph.specs.declared.shelves.Shelves.{Shelves}

-- a change can be drafted: it fits, its items have shelves, and nothing has a draft
pub record CanBeDrafted (shelves : Shelves) (links : List (Sides LinkSeen)) (ways : List (ℕ × List LinkSeen)) (changes : List ItemChange)
    : Type 0 where
  pub inside : (names : Holdings Identifier) × IsInside names (get shelves.slots) shelves.places.entries links
  pub bare : AreBare shelves
  pub none : (v : ℕ) → (sides_at links v).draft ≡ None
  pub ready : AreExactlyDrafted ways links
  pub there : AllByRecursion (λ x. IsSome (slot_of_item shelves x)) (items_changed changes)
  pub fits : Fits (rows_on_side list_now shelves) changes

-- drafts of a change stand, though not all may: what is there stays
pub record HasDrafts (changes : List ItemChange) (ways : List (ℕ × List LinkSeen)) (old new : Shelves) (first later : List (Sides LinkSeen))
    : Type 0 where
  pub shelved : AreShelved new
  pub now : rows_on_side list_now new ≡ rows_on_side list_now old
  pub within : DraftsWithin (items_changed changes) new
  pub links : KeepsLinks first later
  pub ready : AreExactlyDrafted ways later

-- all of them stand
pub record HasAllDrafts (changes : List ItemChange) (old new : Shelves) (first later : List (Sides LinkSeen)) : Type 0 where
  pub inside : (names : Holdings Identifier) → IsInside names (get old.slots) old.places.entries first
      → IsInside names (get new.slots) new.places.entries later
  pub next : IsAfter changes (rows_on_side list_now old) (rows_on_side list_next new)
  pub out : AreOut (items_changed changes) new

-- a change is out, with these ways: its drafts stand, its items are waited for once more, and what is there stays
pub record IsMade (changes : List ItemChange) (ways : List (ℕ × List LinkSeen)) (old new : GraphFields) : Type 0 where
  pub inside : AreInside new
  pub rows : rows_on_side list_now new.shelves ≡ rows_on_side list_now old.shelves
  pub after : IsAfter changes (rows_on_side list_now old.shelves) (rows_on_side list_next new.shelves)
  pub out : AreOut (items_changed changes) new.shelves
  pub ready : AreExactlyDrafted ways new.links
  pub links : (v : ℕ) → (sides_at new.links v).now ≡ (sides_at old.links v).now
  pub longer : length old.links ≤ length new.links
  pub kept : (v : ℕ) (a : Identifier) → Names identifier_order old.names v a → Names identifier_order new.names v a
  pub own : (a : Identifier) (own : ℕ) → HasOwn old a own → HasOwn new a own
  pub places : (x : Item) (at : ℕ) → slot_of_item old.shelves x ≡ Some at
      → (slot_of_item new.shelves x ≡ Some at) × (ends_at new.shelves at ≡ ends_at old.shelves at)
  pub same : (x : Item) → IsOther (items_changed changes) x → slot_of_item new.shelves x ≡ slot_of_item old.shelves x
  pub waits : WaitsFor (items_changed changes) old.shelves new.shelves

-- nothing is out, and all is as before but for room
pub record IsUnmade (old new : GraphFields) : Type 0 where
  pub inside : AreInside new
  pub bare : AreBare new.shelves
  pub none : (v : ℕ) → (sides_at new.links v).draft ≡ None
  pub rows : rows_on_side list_now new.shelves ≡ rows_on_side list_now old.shelves
  pub links : (v : ℕ) → (sides_at new.links v).now ≡ (sides_at old.links v).now
  pub longer : length old.links ≤ length new.links
  pub kept : (v : ℕ) (a : Identifier) → Names identifier_order old.names v a → Names identifier_order new.names v a
  pub before : (v : ℕ) (a : Identifier) → Names identifier_order new.names v a → Names identifier_order old.names v a
  pub own : (a : Identifier) (own : ℕ) → HasOwn old a own → HasOwn new a own
  pub shelves : BringsShelves [] old.shelves new.shelves
