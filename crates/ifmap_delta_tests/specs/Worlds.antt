-- A graph from one change to the next, and what of it is seen.
use Rattle.std.specs.Prelude.{◌≡◌, ℕ, List, IsSome}
use Rattle.std.specs.List.{AllByRecursion}
use Rattle.ifmap_ident.specs.Items.{IsCanonItem}
use Rattle.ifmap_changes.specs.Between.{seen_now}
use Rattle.ifmap_changes.specs.Changes.{seen_next}
use Rattle.ifmap_delta.specs.Changes.{ShowsAfter, WouldKeep}
use Rattle.ifmap_delta.specs.SeenViews.{ViewSeen}
use Rattle.ifmap_delta.specs.declared.subscriptions.Moved.{Moved}
use Rattle.ifmap_delta.specs.declared.subscriptions.Subscription.{Subscription}
use Rattle.ifmap_graph.specs.declared.changes.Ready.{Ready}
use Rattle.ifmap_graph.specs.Inside.{GraphInside}
use Rattle.ifmap_graph.specs.Out.{IsOut}
use Rattle.ifmap_graph.specs.Seen.{HasFewOwn, IsStill, KeepsNumbers, links_now, rows_next, rows_now}
use Rattle.ifmap_plans.specs.Plans.{AreWhole, Fits, IsAfter}
use Rattle.ifmap_plans.specs.declared.plans.Note.{Note}
use Rattle.ifmap_plans.specs.declared.plans.Plan.{Plan}
use Rattle.ifmap_region.specs.Marks.{row_of}
use Rattle.ifmap_region.specs.Ways.{HasRoom}
use Rattle.ifmap_view.specs.Views.{IsView}
use Rattle.ifmap_view.specs.declared.attachments.Attachment.{Attachment}

abbrev pub IsWorldSeen : ViewSeen → Type 0
IsWorldSeen g = IsView g.rows g.id_at g.links

-- what it is to show is what it shows after a plan
abbrev pub AreShown : GraphInside → Plan → Type 0
AreShown h plan = ShowsAfter (seen_now h) (seen_next h) plan.changes

-- the items of notes are those that elements mean
abbrev pub HaveFitNotes : Plan → Type 0
HaveFitNotes plan = AllByRecursion (λ (n : Note). IsCanonItem n.item) plan.notes

-- no change is out, all is whole, and others hold few
pub record IsQuiet (h : GraphInside) : Type 0 where
  pub still : IsStill h
  pub whole : AreWhole (rows_now h)
  pub few : HasFewOwn h

-- a plan can be made, and leaves all whole
pub record IsFitting (h : GraphInside) (plan : Plan) : Type 0 where
  pub fits : Fits (rows_now h) plan.changes
  pub whole : (after : List Attachment) → IsAfter plan.changes (rows_now h) after → AreWhole after
  pub notes : HaveFitNotes plan

-- a change is out
pub record IsUnderWay (h : GraphInside) (ready : Ready) : Type 0 where
  pub out : IsOut ready h
  pub now : IsWorldSeen (seen_now h)
  pub next : IsWorldSeen (seen_next h)
  pub change : AreShown h ready.plan
  pub notes : HaveFitNotes ready.plan
  pub whole : AreWhole (rows_next h)
  pub few : HasFewOwn h

-- what is shown is the same, and numbers stay
pub record ShowsSame (old new : GraphInside) : Type 0 where
  pub rows : rows_now new ≡ rows_now old
  pub links : (v : ℕ) → links_now new v ≡ links_now old v
  pub numbers : KeepsNumbers old new

-- a change is out, and a subscription has room for what it does
pub record IsStepOut (h : GraphInside) (sub : Subscription) (ready : Ready) (moved : Moved) : Type 0 where
  pub way : IsUnderWay h ready
  pub keeps : WouldKeep (seen_next h) sub moved.patch moved.new_size
  pub room : HasRoom moved.patch sub.region.marks.entries

-- each number that had a row has one still
abbrev pub KeepsRows : Subscription → Subscription → Type 0
KeepsRows old new = (v : ℕ) → IsSome (row_of old.region.marks.entries v) → IsSome (row_of new.region.marks.entries v)
