-- Where drafts stand, and what a write to a shelf leaves.
use Rattle.std.specs.Prelude.{◌≡◌, ℕ, List, Option, Some, None, IsSome, option_map}
use Rattle.std.specs.List.{AllByRecursion, IsDistinct}
use Rattle.std.specs.declared.cmp.Ordering.TheVariants.{Equal}
use Rattle.slab.specs.Slab.{get}
use Rattle.ifmap_lemmas.specs.Having.{Has}
use Rattle.ifmap_ident.specs.declared.items.Item.{Item}
use Rattle.ifmap_ident.specs.Items.{item_order, same_item}
use Rattle.ifmap_graph.specs.declared.ends.ItemEnds.{ItemEnds}
use Rattle.ifmap_graph.specs.declared.shelves.Shelf.{Shelf}
use Rattle.ifmap_graph.specs.declared.shelves.Shelves.{Shelves}
use Rattle.ifmap_graph.specs.Shelved.{AreShelved, HasDraft, rows_on_side, slot_of_item}
use Rattle.ifmap_graph.specs.Sides.{list_next, list_now}
use Rattle.ifmap_graph.specs.Waits.{waits_on}

-- the numbers that the shelf of a slot has
abbrev pub ends_at : Shelves → ℕ → Option ItemEnds
ends_at s at = option_map (λ shelf. shelf.ends) (get s.slots at)

-- a shelf, where there is one, has no draft
abbrev pub NoDraft : Option Shelf → Type 0
NoDraft None = Unit {0}
NoDraft (Some shelf) = shelf.stored.draft ≡ None

-- no shelf has one: what is stored is what is to be
abbrev pub AreBare : Shelves → Type 0
AreBare s = AllByRecursion (λ e. NoDraft (get s.slots e.1)) s.places.entries

-- shelves with a draft are those of these items alone
abbrev pub DraftsWithin : List Item → Shelves → Type 0
DraftsWithin items s = (x : Item) → HasDraft s x → (i : Item) × Has items i × (item_order i x ≡ Equal)

-- a change of these items is out: no two are the same, and the shelves of these have drafts, and no others
pub record AreOut (items : List Item) (s : Shelves) : Type 0 where
  pub drafted : AllByRecursion (HasDraft s) items
  pub within : DraftsWithin items s
  pub apart : IsDistinct same_item items

-- each shelf stays in its slot with its numbers, and each item is waited for as often
pub record StayInPlace (old new : Shelves) : Type 0 where
  pub ends : (at : ℕ) → ends_at new at ≡ ends_at old at
  pub waits : (x : Item) → waits_on new x ≡ waits_on old x
  pub places : new.places ≡ old.places

-- shelves stay in place, and are in order
pub record StayShelved (old new : Shelves) : Type 0 where
  pub shelved : AreShelved new
  pub place : StayInPlace old new

-- so they do, and none is left with a draft
pub record AreLeftBare (old new : Shelves) : Type 0 where
  pub stays : StayShelved old new
  pub bare : AreBare new

-- shelves in order have drafts at none but these items, each of which has a shelf
pub record HaveDraftsWithin (items : List Item) (s : Shelves) : Type 0 where
  pub shelved : AreShelved s
  pub there : AllByRecursion (λ x. IsSome (slot_of_item s x)) items
  pub within : DraftsWithin items s

-- all drafts were dropped: what is to be stored is what was and is stored, and shelves stay in place and in order
pub record DropDrafts (old new : Shelves) : Type 0 where
  pub now : rows_on_side list_now new ≡ rows_on_side list_now old
  pub next : rows_on_side list_next new ≡ rows_on_side list_now old
  pub left : AreLeftBare old new

-- shelves in order stay in their slots with their numbers, and with what is stored and what is to be
pub record KeepRows (old new : Shelves) : Type 0 where
  pub shelved : AreShelved new
  pub now : rows_on_side list_now new ≡ rows_on_side list_now old
  pub next : rows_on_side list_next new ≡ rows_on_side list_next old
  pub ends : (at : ℕ) → ends_at new at ≡ ends_at old at
  pub places : new.places ≡ old.places
