-- How many steps a change of the graph takes, of the state that it is made in: what it is is found, and all that stand are told of it.
use Rattle.std.specs.Prelude.{◌≡◌, ◌≤◌, ◌+◌, ◌⊎◌, ℕ, List, [], ◌∷◌, length, Some}
use Rattle.ifmap_tellings.specs.ifmap_delta.Bounds.{IsWithinBound}
use Rattle.ifmap_tellings.specs.ifmap_delta.SeenViews.{ViewSeen}
use Rattle.ifmap_tellings.specs.ifmap_machine.Ending.{drop_sessions}
use Rattle.ifmap_tellings.specs.ifmap_machine.State.{Standing, State}
use Rattle.ifmap_graph.specs.ifmap_plans.After.{items_of}
use Rattle.ifmap_graph.specs.ifmap_plans.declared.plans.Plan.{Plan}
use Rattle.ifmap_graph.specs.ifmap_plans.Plans.{IsAfter}
use Rattle.ifmap_tellings.specs.ifmap_publish.declared.who.Who.{Who}
use Rattle.ifmap_tellings.specs.ifmap_publish.declared.who.Who.TheVariants.{Sessions}
use Rattle.ifmap_tellings.specs.ifmap_publish.Retract.{retract}
use Rattle.ifmap_graph.specs.ifmap_view.declared.attachments.Attachment.{Attachment}
use Rattle.ifmap_graph.specs.ifmap_view.Attachments.{IsGraph}
use Rattle.ifmap_graph.specs.ifmap_view.Views.{IsView}

-- these attachments before a change and those after it, seen with one numbering of identifiers
pub record AreSeenViews (first last : List Attachment) (old new : ViewSeen) : Type 0 where
  pub before : IsView old.rows old.id_at old.links
  pub after : IsView new.rows new.id_at new.links
  pub rows : old.rows ≡ first
  pub next : new.rows ≡ last
  pub numbers : (v : ℕ) → new.id_at v ≡ old.id_at v

module _ (old new : ViewSeen) where
  -- the steps rose by at most the bound of a change for one subscription, from the number of its start
  abbrev pub IsWithinOne : Standing → ℕ → ℕ → Type 0
  IsWithinOne x before after =
      (start : ℕ) × (old.id_at start ≡ Some x.search.start) × IsWithinBound old new x.search start before after

  -- by at most the sum of that for these subscriptions
  abbrev pub IsWithinAll : List Standing → ℕ → ℕ → Type 0
  IsWithinAll [] before after = after ≤ before
  IsWithinAll (x ∷ xs) before after = (middle : ℕ) × IsWithinOne x before middle × IsWithinAll xs middle after

-- by at most the sum of that for all that stand, where the graph becomes these attachments; or not at all. The bound is the same
-- whichever numbers identifiers have, so it is enough that it holds with one numbering.
abbrev pub IsToldWithin : List Attachment → State → ℕ → ℕ → Type 0
IsToldWithin next state before after =
    (after ≤ before)
    ⊎ ((old : ViewSeen) × (new : ViewSeen) × AreSeenViews state.graph next old new × IsWithinAll old new state.standing before after)

-- the same of a change by a plan, whatever attachments it makes of those that are there
abbrev pub IsPlanWithin : Plan → State → ℕ → ℕ → Type 0
IsPlanWithin plan state before after =
    (rows : List Attachment) → IsGraph rows → IsAfter plan.changes state.graph rows → IsToldWithin rows state before after

-- by at most one more than there are items with an attachment
abbrev pub IsRetractedWithin : List Attachment → ℕ → ℕ → Type 0
IsRetractedWithin rows before after = after ≤ before + 1 + length (items_of rows)

-- what is of these is found, and taken away
abbrev pub IsTakenWithin : Who → State → ℕ → ℕ → Type 0
IsTakenWithin who state before after =
    (middle : ℕ) × IsRetractedWithin state.graph before middle × IsToldWithin (retract who state.graph) state middle after

-- sessions end, where some do: what was to stay as long as they is taken away, and their subscriptions are not told
abbrev pub IsEndedWithin : List ℕ → State → ℕ → ℕ → Type 0
IsEndedWithin [] state before after = after ≤ before
IsEndedWithin (n ∷ serials) state before after =
    IsTakenWithin (Sessions (n ∷ serials)) (drop_sessions (n ∷ serials) state) before after
