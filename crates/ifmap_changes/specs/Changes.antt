-- Changes of the graph while an event is answered, and their ways back.
use Rattle.std.specs.Prelude.{◌≡◌, ◌≤◌, ◌==◌, ◌||◌, ℕ, Bool, true, List, [], ◌∷◌, OnErr, OnOk, Result, Some, length, map, slice_get, vec_capacity, vec_len}
use Rattle.std.specs.List.{AllByRecursion, list_any, zip}
use Rattle.ifmap_changes.specs.Between.{AreChangedWith, AreKept, Asking, HasNoSubscriptions, IsSeen, IsSoundSoFar, IsSteady, SharesNumbers, rest_of, seen_now, state_now}
use Rattle.ifmap_changes.specs.declared.changes.Made.{Made}
use Rattle.ifmap_changes.specs.declared.parts.Parts.{Parts}
use Rattle.ifmap_tellings.specs.declared.tellings.Pending.{Pending}
use Rattle.ifmap_tellings.specs.Tellings.{AllKept, AloneAreBare, CanTell, EachTelling, HasSameSessions, IsSized, kept_items}
use Rattle.ifmap_tellings.specs.ifmap_delta.Changes.{ShowsAfter}
use Rattle.ifmap_tellings.specs.ifmap_delta.SeenViews.{IsUpToDate, ViewSeen}
use Rattle.ifmap_tellings.specs.ifmap_delta.SameSearches.{HasSameSearch}
use Rattle.ifmap_ident.specs.Items.{IsCanonItem}
use Rattle.ifmap_tellings.specs.ifmap_machine.Ending.{without_standing}
use Rattle.ifmap_tellings.specs.ifmap_machine.State.{State}
use Rattle.ifmap_tellings.specs.ifmap_machine.Telling.{overflow, tell}
use Rattle.ifmap_graph.specs.ifmap_plans.declared.plans.Note.{Note}
use Rattle.ifmap_graph.specs.ifmap_plans.declared.plans.Plan.{Plan}
use Rattle.ifmap_graph.specs.ifmap_plans.Plans.{Fits, IsAfter}
use Rattle.ifmap_graph.specs.ifmap_pool.Holdings.{key_at}
use Rattle.ifmap_tellings.specs.ifmap_publish.declared.who.Who.{Who}
use Rattle.ifmap_tellings.specs.ifmap_publish.declared.who.Who.TheVariants.{Sessions}
use Rattle.ifmap_tellings.specs.ifmap_publish.Retract.{retract}
use Rattle.ifmap_tellings.specs.ifmap_standing.declared.standing.Standing.{Standing}
use Rattle.ifmap_tellings.specs.ifmap_standing.Kept.{AtEach, KeepsSame, StaysRelated}
use Rattle.ifmap_tellings.specs.ifmap_standing.Standing.{standing_of}
use Rattle.ifmap_tellings.specs.ifmap_standing.Ways.{LeadBack}
use Rattle.ifmap_graph.specs.declared.changes.Ready.{Ready}
use Rattle.ifmap_graph.specs.Back.{IsUndoTo, KeepsBacks}
use Rattle.ifmap_graph.specs.Inside.{GraphInside}
use Rattle.ifmap_graph.specs.Out.{IsOut, items_changed}
use Rattle.ifmap_graph.specs.Seen.{AreAwaited, AwaitsMore, BringsNoNumbers, KeepsNumbers, KeepsOwn, StaysLeanWith, links_next, links_now, rows_next, rows_now}
use Rattle.ifmap_graph.specs.ifmap_view.declared.attachments.Attachment.{Attachment}
use Rattle.ifmap_graph.specs.ifmap_view.Attachments.{IsGraph}
use Rattle.ifmap_graph.specs.ifmap_view.Views.{IsView}

-- the graph as it is to be, as subscriptions see it
abbrev pub seen_next : GraphInside → ViewSeen
seen_next h = record { rows = rows_next h; id_at = key_at h.names; links = links_next h }

-- the state with the graph as it is to be
abbrev pub with_next : Asking → Parts → Pending → State
with_next a parts pending = record (state_now a parts pending) { graph = rows_next parts.graph }

-- a change of a graph is out: what is seen of the graph is as it was but for numbers that came, and what is to be seen is what the plan
-- makes of it
pub record IsBegun (ready : Ready) (wanted : Plan) (old new : GraphInside) : Type 0 where
  pub out : IsOut ready new
  pub plan : ready.plan ≡ wanted
  pub before : IsSeen old
  pub now : IsSeen new
  pub next : IsView (rows_next new) (key_at new.names) (links_next new)
  pub change : ShowsAfter (seen_now new) (seen_next new) wanted.changes
  pub rows : rows_now new ≡ rows_now old
  pub links : (v : ℕ) → links_now new v ≡ links_now old v
  pub numbers : KeepsNumbers old new
  pub own : KeepsOwn old new
  pub waits : AwaitsMore (items_changed wanted.changes) old new
  pub lean : StaysLeanWith (items_changed wanted.changes) old new
  pub backs : KeepsBacks old new

-- the subscriptions were told of a change that is out: with the attachments that are to be, and what is pending told, the state is what
-- the change makes of the one before; who is not gone keeps what the graph is to have; what is pending is of live sessions with room
-- for it, and its sizes are exact; and who is told one error in place of all has no subscription left
pub record IsTold (a : Asking) (old : Parts) (before : Pending) (notes : List Note) (new : Parts) (after : Pending) : Type 0 where
  pub state : with_next a new after ≡ overflow (tell (rows_next old.graph) notes (state_now a old before))
  pub kept : AllKept (λ x. IsUpToDate (seen_next new.graph) x.subscription) after.gone.items new.standing.items
  pub flags : length after.gone.items ≡ length new.standing.items
  -- what was gone is
  pub gone : (i : ℕ) → slice_get before.gone.items i ≡ Some true → slice_get after.gone.items i ≡ Some true
  pub can_tell : EachTelling (CanTell (rest_of a new.sessions)) after.tellings
  pub sized : EachTelling (λ n t. IsSized n t new.sessions.live) after.tellings
  pub alone : AloneAreBare after.tellings after.gone.items new.standing.items

-- the graph and the searches of subscriptions stay, and after an error each subscription keeps what it kept
pub record KeepsSearches {X E : Type 0} (result : Result X E) (old new : Parts) : Type 0 where
  pub graph : new.graph ≡ old.graph
  pub same : AtEach (λ _. StaysRelated HasSameSearch) old.standing.items new.standing.items
  pub err : OnErr result (AtEach (λ _. StaysRelated KeepsSame) old.standing.items new.standing.items)

-- a plan can become a change while an event is answered: the graph is steady, what is so far is sound, the plan fits what is stored, and
-- its notes are of canonical items
pub record CanMakeChange (plan : Plan) (a : Asking) (parts : Parts) (pending : Pending) : Type 0 where
  pub steady : IsSteady parts.graph parts.standing.items
  pub ready : IsSoundSoFar a parts pending
  pub fits : Fits (rows_now parts.graph) plan.changes
  pub canon : AllByRecursion (λ (n : Note). IsCanonItem n.item) plan.notes

-- all is told of a change by a plan, whatever attachments it makes of those that are there
abbrev pub TellsPlan : Asking → Plan → Parts → Pending → Parts → Pending → Type 0
TellsPlan a plan old before new after =
    (rows : List Attachment) → IsGraph rows → IsAfter plan.changes (rows_now old.graph) rows
    → state_now a new after ≡ overflow (tell rows plan.notes (state_now a old before))

-- all is told of a change by a plan, and no session has subscriptions that had none; or after an error the parts are kept
pub record TellsPlanOrKeeps {X E : Type 0} (result : Result X E) (plan : Plan) (a : Asking) (old : Parts) (before : Pending)
    (new : Parts) (after : Pending) : Type 0 where
  pub told : OnOk result (TellsPlan a plan old before new after)
  pub bare : OnOk result ((n : ℕ) → HasNoSubscriptions n old before → HasNoSubscriptions n new after)
  pub kept : OnErr result (AreKept old new)

-- a change can be left as it is: its items are waited for
pub record CanSettle (made : Made) (parts : Parts) : Type 0 where
  pub waits : AreAwaited (items_changed made.undo.plan.changes) parts.graph
  pub ways : length made.ways ≤ length parts.standing.items

-- a change can be taken back, and then all is what it was before
pub record CanTakeBack (made : Made) (before parts : Parts) : Type 0 where
  pub graph : IsUndoTo made.undo (rows_now before.graph) (links_now before.graph) parts.graph
  pub lean : StaysLeanWith (items_changed made.undo.plan.changes) before.graph parts.graph
  pub numbers : SharesNumbers before.graph parts.graph
  pub standing : LeadBack before.standing.items made.ways parts.standing.items
  pub sessions : HasSameSessions before.sessions parts.sessions

-- a change was made while an event is answered, with its ways back: its items are out still, and no number went
pub record HasWaysBack (a : Asking) (old new : Parts) (after : Pending) (made : Made) : Type 0 where
  pub changed : AreChangedWith (items_changed made.undo.plan.changes) a old new after
  pub back : CanTakeBack made old new
  pub numbers : KeepsNumbers old.graph new.graph

-- a change was left as it is: nothing that is seen changes
pub record IsSettled (old new : Parts) : Type 0 where
  pub rows : rows_now new.graph ≡ rows_now old.graph
  pub links : (v : ℕ) → links_now new.graph v ≡ links_now old.graph v
  pub numbers : BringsNoNumbers old.graph new.graph
  pub searches : AtEach (λ _. StaysRelated HasSameSearch) old.standing.items new.standing.items
  pub len : vec_len new.standing ≡ vec_len old.standing
  pub capacity : vec_capacity new.standing ≡ vec_capacity old.standing
  pub sessions : new.sessions ≡ old.sessions

-- also gone are the subscriptions of these sessions
abbrev pub flags_with : List ℕ → List Bool → List Standing → List Bool
flags_with serials gone standing = map (λ (p : Bool × Standing). p.0 || list_any (λ n. n == p.1.serial) serials) (zip gone standing)

-- the subscriptions of these sessions are flagged as gone too, so that the others are left, and what is pending of sessions stays
pub record FlagsSessions (serials : List ℕ) (standing : List Standing) (old new : Pending) : Type 0 where
  pub gone : new.gone.items ≡ flags_with serials old.gone.items standing
  pub flags : length new.gone.items ≡ length standing
  pub left : map standing_of (kept_items new.gone.items standing)
      ≡ without_standing serials (map standing_of (kept_items old.gone.items standing))
  pub stay : (i : ℕ) → slice_get old.gone.items i ≡ Some true → slice_get new.gone.items i ≡ Some true
  pub tellings : new.tellings ≡ old.tellings

-- a plan takes away what is of these, and notifies nothing
pub record TakesAway (who : Who) (rows : List Attachment) (plan : Plan) : Type 0 where
  pub fits : Fits rows plan.changes
  pub graph : IsGraph (retract who rows)
  pub after : IsAfter plan.changes rows (retract who rows)
  pub notes : plan.notes ≡ []

-- the state once what is of these is taken away, and all are told
abbrev pub state_taken_from : Who → State → State
state_taken_from who state = overflow (tell (retract who state.graph) [] state)

-- what is of these is taken away and all are told, or after an error the parts are kept
pub record TakesAwayOrKeeps {X E : Type 0} (result : Result X E) (who : Who) (a : Asking) (old : Parts) (before : Pending)
    (new : Parts) (after : Pending) : Type 0 where
  pub told : OnOk result (state_now a new after ≡ state_taken_from who (state_now a old before))
  pub kept : OnErr result (AreKept old new)

-- the state once a session's subscriptions stand no longer, and the others are told what goes with it
abbrev pub take_session : ℕ → State → State
take_session n state = state_taken_from (Sessions (n ∷ [])) (record state { standing = without_standing (n ∷ []) state.standing })
