-- What a view shows, and what of it a subscription keeps.
use Rattle.std.specs.Prelude.{◌≡◌, ℕ, Bool, List, Option, Some}
use Rattle.ifmap_ident.specs.declared.identifiers.Identifier.{Identifier}
use Rattle.ifmap_ident.specs.Canon.{IsIdentifier}
use Rattle.ifmap_region.specs.Marks.{mark_of}
use Rattle.ifmap_region.specs.Walks.{AreDepths}
use Rattle.ifmap_search.specs.declared.searches.Search.{Search}
use Rattle.ifmap_view.specs.declared.attachments.Attachment.{Attachment}
use Rattle.ifmap_view.specs.declared.views.LinkSeen.{LinkSeen}
use Rattle.ifmap_fresh.specs.Fresh.{fresh_size}
use Rattle.ifmap_fresh.specs.Numbered.{HaveMatchingLink, is_terminal_number}
use Rattle.ifmap_delta.specs.declared.subscriptions.Subscription.{Subscription}
use Rattle.ifmap_view.specs.Views.{IsView}

-- what a view shows: the attachments, the identifiers of numbers, and the links of each number
pub record ViewSeen : Type 0 where
  pub rows : List Attachment
  pub id_at : ℕ → Option Identifier
  pub links : ℕ → List LinkSeen

-- what this view shows, where its members are these
abbrev pub view_seen : {X : Type 0} → (X → List Attachment) → (X → ℕ → Option Identifier)
    → (X → ℕ → List LinkSeen) → X → ViewSeen
view_seen rows id_at links view = record { rows = rows view; id_at = id_at view; links = links view }

-- a number has a link with another that the search goes along
abbrev pub Links : ViewSeen → Search → ℕ → ℕ → Type 0
Links g s = HaveMatchingLink g.rows g.id_at g.links s

-- no walk of the search goes on from the number
abbrev pub is_terminal_in : ViewSeen → Search → ℕ → Bool
is_terminal_in g s = is_terminal_number g.rows g.id_at g.links s

-- a region's start, greatest depth and marks are those of a search: each number that a walk reaches
-- has a mark, and it is the least number of links of such a walk
pub record AreMarks (g : ViewSeen) (s : Search) (start top : ℕ) (mark : ℕ → Option ℕ) : Type 0 where
  pub identifier : IsIdentifier s.start
  pub here : g.id_at start ≡ Some s.start
  pub most : top ≡ s.max_depth
  pub depths : AreDepths (Links g s) (is_terminal_in g s) start s.max_depth mark

-- the marks of a subscription are those of the view
abbrev pub HasMarks : ViewSeen → Subscription → Type 0
HasMarks g sub = AreMarks g sub.search sub.region.start sub.region.max_depth
    (mark_of sub.region.marks.entries)

-- a subscription keeps what the view has: the marks, and the size of the result
pub record IsUpToDate (g : ViewSeen) (sub : Subscription) : Type 0 where
  pub marks : HasMarks g sub
  pub size : sub.size ≡ fresh_size g.rows sub.search

-- the marks are those of a search from some start
abbrev pub HaveMarks : ViewSeen → Search → (ℕ → Option ℕ) → Type 0
HaveMarks g s mark = (start : ℕ) × (top : ℕ) × AreMarks g s start top mark

-- the laws on what subscriptions keep
abbrev pub SameLinks : Type 0
SameLinks = (one other : ViewSeen) (sub : Subscription) → IsView one.rows one.id_at one.links → IsView other.rows other.id_at other.links
    → other.rows ≡ one.rows → ((v : ℕ) → other.links v ≡ one.links v)
    → ((v : ℕ) (a b : Identifier) → one.id_at v ≡ Some a → other.id_at v ≡ Some b → b ≡ a)
    → other.id_at sub.region.start ≡ Some sub.search.start → IsUpToDate one sub → IsUpToDate other sub
