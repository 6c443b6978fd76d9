-- What a search shows of an item, from which numbers its walks go on, and what a side of a change
-- has. No public clause cites this module.
use Rattle.std.specs.Prelude.{ℕ, Bool, not, ◌&&◌, List, [], Option, if◌then◌else◌}
use Rattle.ifmap_ident.specs.declared.identifiers.Identifier.{Identifier}
use Rattle.ifmap_ident.specs.declared.items.Item.{Item}
use Rattle.ifmap_meta.specs.declared.stored.Stored.{Stored}
use Rattle.ifmap_region.specs.declared.region.Region.{Region}
use Rattle.ifmap_region.specs.Marks.{mark_of, mark_over}
use Rattle.ifmap_search.specs.declared.searches.Search.{Search}
use Rattle.ifmap_view.specs.declared.attachments.Attachment.{Attachment}
use Rattle.ifmap_view.specs.declared.views.LinkSeen.{LinkSeen}
use Rattle.ifmap_view.specs.Attachments.{IsGraph}
use Rattle.ifmap_view.specs.Rows.{stored_on}
use Rattle.ifmap_view.specs.Views.{IsView}
use Rattle.ifmap_fresh.specs.Collected.{is_below}
use Rattle.ifmap_fresh.specs.Fresh.{is_looked_at}
use Rattle.ifmap_fresh.specs.Linking.{is_terminal_at}
use Rattle.ifmap_delta.specs.declared.marks.Patched.{Patched}
use Rattle.ifmap_delta.specs.declared.sides.Side.{Side}
use Rattle.ifmap_delta.specs.SeenViews.{HaveMarks, ViewSeen, view_seen}

-- walks go on from a number with this identifier and mark
abbrev pub goes_on : Search → Option Identifier → Option ℕ → Bool
goes_on s id mark = is_below s.max_depth mark && not (is_terminal_at s.terminal id)

-- what is stored on an item, where the search looks at it
abbrev pub shown_on : List Attachment → Search → Item → List Stored
shown_on rows s x = if is_looked_at rows s x then stored_on x rows else []

-- the marks of a region
abbrev pub region_mark : Region → ℕ → Option ℕ
region_mark r = mark_of r.marks.entries

-- the marks of a region with a patch over them
abbrev pub patched_mark : Patched → ℕ → Option ℕ
patched_mark p = mark_over p.patch.now (mark_of p.region.now.marks.entries)

-- what a side sees, where the members of its view are these, is a whole view
abbrev pub SeesView : {V M : Type 0} → (V → List Attachment) → (V → ℕ → Option Identifier)
    → (V → ℕ → List LinkSeen) → Side V M → Type 0
SeesView rows id_at links side =
    IsView (rows side.view.now) (id_at side.view.now) (links side.view.now)

-- its marks are those of its search over what it sees
abbrev pub HasSideMarks : {V M : Type 0} → (V → List Attachment) → (V → ℕ → Option Identifier)
    → (V → ℕ → List LinkSeen) → (M → ℕ → Option ℕ) → Side V M → Type 0
HasSideMarks rows id_at links mark side =
    HaveMarks (view_seen rows id_at links side.view.now) side.search.now (mark side.marks.now)

-- the two sides of a change: what each shows is a graph, and its marks are those of its search over that
pub record AreSides {G D : Type 0} (old new : ViewSeen) (one : Side G Region) (other : Side D Patched) : Type 0 where
  pub graph : IsGraph old.rows
  pub draft : IsGraph new.rows
  pub before : HaveMarks old one.search.now (region_mark one.marks.now)
  pub after : HaveMarks new other.search.now (patched_mark other.marks.now)
