-- Ways back: what a change that was made leaves when it is taken back.
use Rattle.std.specs.Prelude.{◌≡◌, ◌≢◌, ◌⊎◌, ◌++◌, ℕ, List, [], ◌∷◌, Option, Some, None, Contains, length, nat_eq, if◌then◌else◌}
use Rattle.std.specs.BTreeMap.{is_at}
use Rattle.std.specs.List.{IsDistinct}
use Rattle.ifmap_ident.specs.declared.items.Item.{Item}
use Rattle.ifmap_ident.specs.Items.{item_order}
use Rattle.ifmap_meta.specs.declared.stored.Stored.{Stored}
use Rattle.ifmap_view.specs.declared.attachments.Attachment.{Attachment}
use Rattle.ifmap_view.specs.declared.views.LinkSeen.{LinkSeen}
use Rattle.ifmap_view.specs.Attachments.{IsGraph}
use Rattle.ifmap_view.specs.Rows.{stored_on}
use Rattle.ifmap_graph.specs.declared.changes.Undo.{Undo}
use Rattle.ifmap_graph.specs.declared.ends.ItemEnds.{ItemEnds}
use Rattle.ifmap_graph.specs.Inside.{GraphInside, links_at}
use Rattle.ifmap_graph.specs.Joined.{two_of}
use Rattle.ifmap_graph.specs.Linked.{link_places}
use Rattle.ifmap_graph.specs.Out.{items_changed}
use Rattle.ifmap_graph.specs.Seen.{AreAwaited, AwaitsMore, IsStill, StaysLean, rows_now}
use Rattle.ifmap_graph.specs.Sides.{list_now}
use Rattle.ifmap_graph.specs.Stays.{ends_in, place_in}
use Rattle.ifmap_graph.specs.Turning.{AreWithin, restore_each}

-- what stands on an item once lists stand on items, one after the other, of what stands there before
abbrev pub stand_each : List Item → List (List Stored) → Item → List Stored → List Stored
stand_each [] lists x before = before
stand_each (i ∷ is) [] x before = before
stand_each (i ∷ is) (list ∷ lists) x before = stand_each is lists x (if is_at (item_order i) x then list else before)

-- these are the two numbers of a link, whichever comes first
abbrev pub AreBothEnds : Option ItemEnds → ℕ → ℕ → Type 0
AreBothEnds None v w = ⊥
AreBothEnds (Some ends) v w = (two_of ends ≡ Some (v, w)) ⊎ (two_of ends ≡ Some (w, v))

-- links are those of the shelves whose items have something stored on them, each once
pub record AreLinks (rows : List Attachment) (links : ℕ → List LinkSeen) (h : GraphInside) : Type 0 where
  pub only : (v : ℕ) (seen : LinkSeen) → Contains (links v) seen
      → (x : Item) × (place_in h x ≡ Some seen.at) × AreBothEnds (ends_in h x) v seen.other × (stored_on x rows ≢ [])
  pub each : (x : Item) (v w at : ℕ) → place_in h x ≡ Some at → AreBothEnds (ends_in h x) v w → stored_on x rows ≢ []
      → Contains (links v) (record { other = w; at = at })
  pub once : (v : ℕ) → IsDistinct nat_eq (link_places (links v))

-- taken back, the change leaves these attachments and links: its lists stand on its items and at its numbers, and all else is what is
-- there; its items are waited for
pub record IsUndoTo (u : Undo) (rows : List Attachment) (links : ℕ → List LinkSeen) (h : GraphInside) : Type 0 where
  pub graph : IsGraph rows
  pub stored : (x : Item) → stored_on x rows ≡ stand_each (items_changed u.plan.changes) u.lists x (stored_on x (rows_now h))
  pub linked : (v : ℕ) → links v ≡ links_at list_now (restore_each u.ways h.links) v
  pub slots : AreLinks rows links h
  pub lists : length u.lists ≡ length u.plan.changes
  pub within : AreWithin u.ways (length h.links)
  pub waits : AreAwaited (items_changed u.plan.changes) h

-- ways back stay
abbrev pub KeepsBacks : GraphInside → GraphInside → Type 0
KeepsBacks old new =
    (u : Undo) (rows : List Attachment) (links : ℕ → List LinkSeen) → IsUndoTo u rows links old → IsUndoTo u rows links new

-- so do those of which the items are waited for beside these
abbrev pub KeepsOtherBacks : List Item → GraphInside → GraphInside → Type 0
KeepsOtherBacks items old new =
    (u : Undo) (rows : List Attachment) (links : ℕ → List LinkSeen) → AreAwaited (items ++ items_changed u.plan.changes) old
    → IsUndoTo u rows links old → IsUndoTo u rows links new

-- shelves stay with what is stored and drafted on them and waited for, and so do ways back; where nothing is out or left behind, it
-- stays so
pub record KeepsShelves (old new : GraphInside) : Type 0 where
  pub shelves : new.shelves ≡ old.shelves
  pub places : new.places ≡ old.places
  pub still : IsStill old → IsStill new
  pub waits : AwaitsMore [] old new
  pub backs : KeepsBacks old new
  pub lean : StaysLean old new
