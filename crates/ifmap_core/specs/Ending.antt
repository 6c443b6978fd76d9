-- What an event is answered at a time.
use Rattle.std.specs.Prelude.{◌≡◌, IfOk, OnErr, OnOk, Result}
use Rattle.ifmap_subscribes.specs.ifmap_changes.Between.{AreBack, AreParts, state_at}
use Rattle.ifmap_subscribes.specs.ifmap_changes.declared.parts.Parts.{Parts}
use Rattle.ifmap_core.specs.declared.ending.Time.{Time}
use Rattle.ifmap_subscribes.specs.ifmap_graph.Seen.{StaysLean}
use Rattle.ifmap_subscribes.specs.ifmap_machine.declared.events.Answer.{Answer}
use Rattle.ifmap_subscribes.specs.ifmap_machine.Events.{Event}
use Rattle.ifmap_subscribes.specs.ifmap_machine.State.{State}
use Rattle.ifmap_subscribes.specs.ifmap_machine.Step.{step_ask}

-- the state of parts at a time
abbrev pub state_when : Time → Parts → State
state_when time parts = state_at time.ttl time.moment parts

-- an event was answered as in that state, and the parts are sound and leave nothing behind; after an error they are back
pub record AnswersEvent {E : Type 0} (result : Result Answer E) (time : Time) (state : State) (event : Event)
    (old new : Parts) : Type 0 where
  pub answer : IfOk result (λ answer. ◌≡◌ {A = State × Answer} (state_when time new, answer) (step_ask state event event.ask))
  pub kept : OnErr result (AreBack old new)
  pub parts : OnOk result (AreParts new)
  pub lean : OnOk result (StaysLean old.graph new.graph)
