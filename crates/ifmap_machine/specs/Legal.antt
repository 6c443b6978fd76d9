-- Histories of the machine.
use Rattle.std.specs.Prelude.{◌≡◌, ℕ, List, [], ◌∷◌, map}
use Rattle.std.specs.List.{AllByRecursion}
use Rattle.ifmap_machine.specs.declared.events.Answer.{Answer}
use Rattle.ifmap_machine.specs.Events.{Event, IsFitEvent}
use Rattle.ifmap_machine.specs.State.{State, opening_state}
use Rattle.ifmap_machine.specs.Step.{step}
use Rattle.ifmap_session.specs.Sessions.{Session}

-- events with their answers, in order
abbrev pub History : Type 0
History = List (Event × Answer)

-- each answer is that of the step in the state after the events before it
abbrev pub LegalFrom : State → History → Type 0
LegalFrom state [] = Unit {0}
LegalFrom state (e ∷ history) = (e.1 ≡ (step state e.0).1) × LegalFrom (step state e.0).0 history

-- the same, from the opening state
abbrev pub Legal : ℕ → History → Type 0
Legal ttl history = LegalFrom (opening_state ttl) history

-- each event is fit
abbrev pub AreFit : History → Type 0
AreFit history = AllByRecursion (λ (e : Event × Answer). IsFitEvent e.0) history

-- the state after the events of a history
abbrev pub state_from : State → History → State
state_from state [] = state
state_from state (e ∷ history) = state_from (step state e.0).0 history

abbrev pub state_after : ℕ → History → State
state_after ttl history = state_from (opening_state ttl) history

-- the clients of the live sessions, in the order of the sessions
abbrev pub live_clients : State → List (List ℕ)
live_clients state = map (λ (s : Session). s.client) state.sessions
