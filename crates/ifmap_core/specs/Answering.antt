-- What the functions that answer a request are given, and what they give.
use Rattle.std.specs.Prelude.{ℕ, List, IfOk, OnErr, OnOk, Result}
use Rattle.ifmap_subscribes.specs.ifmap_changes.Between.{AreKept, AreLaterParts, Asking, IsSoundSoFar, IsSteady, state_now}
use Rattle.ifmap_subscribes.specs.ifmap_changes.declared.parts.Parts.{Parts}
use Rattle.ifmap_core.specs.Bounds.{IsWithinOwn}
use Rattle.ifmap_core.specs.declared.completions.Completion.{Completion}
use Rattle.ifmap_core.specs.Completions.{LeadsToAnswer}
use Rattle.ifmap_subscribes.specs.ifmap_machine.declared.events.Answer.{Answer}
use Rattle.ifmap_subscribes.specs.ifmap_machine.State.{State}
use Rattle.ifmap_subscribes.specs.ifmap_machine.Step.{in_session}
use Rattle.ifmap_session.specs.Sessions.{Session, session_with_id}
use Rattle.ifmap_subscribes.specs.ifmap_tellings.declared.tellings.Pending.{Pending}

-- a request can be answered: the graph is steady, and what is so far is sound
pub record CanAnswer (a : Asking) (parts : Parts) (pending : Pending) : Type 0 where
  pub steady : IsSteady parts.graph parts.standing.items
  pub ready : IsSoundSoFar a parts pending

-- the parts are later ones, or after an error they are kept
pub record AreLaterOrKept {X E : Type 0} (result : Result X E) (old new : Parts) : Type 0 where
  pub later : OnOk result (AreLaterParts old new)
  pub kept : OnErr result (AreKept old new)

-- a completion, if there is one, can be applied and leads to that state and answer
abbrev pub GivesCompletion : {E : Type 0} → Result Completion E → Asking → Parts → Pending → State × Answer → Type 0
GivesCompletion result a parts pending wanted = IfOk result (λ completion. LeadsToAnswer completion a parts pending wanted)

-- the case of a request in the session of an id, where that is the client's
abbrev pub case_in : State → List ℕ → List ℕ → (Session → State × Answer) → State × Answer
case_in state client id accept = in_session state client (session_with_id id state.sessions) accept

-- a completion, if there is one, leads from the parts after to that case of what is so far of the parts before
abbrev pub GivesCase : {E : Type 0} → Result Completion E → List ℕ → (State → Session → State × Answer)
    → Asking → Parts → Pending → Parts → Pending → Type 0
GivesCase result id accept a old before new after =
    GivesCompletion result a new after (case_in (state_now a old before) a.client id (accept (state_now a old before)))

-- the steps of that case are within that of what is so far, and there are none in another session
abbrev pub IsCaseWithin : List ℕ → (State → Session → ℕ → ℕ → Type 0) → Asking → Parts → Pending → ℕ → ℕ → Type 0
IsCaseWithin id Within a parts pending before after =
    IsWithinOwn a.client (session_with_id id (state_now a parts pending).sessions) (Within (state_now a parts pending)) before after
