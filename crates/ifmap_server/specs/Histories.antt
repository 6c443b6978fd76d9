-- The history of the machine that a script makes.
use Rattle.std.specs.Prelude.{List, [], ◌∷◌, ◌++◌, Ok, Err}
use Rattle.ifmap_core.specs.ifmap_machine.Legal.{History}
use Rattle.ifmap_core.specs.ifmap_machine.State.{State, opening_state, session_seconds}
use Rattle.ifmap_core.specs.ifmap_machine.Step.{step}
use Rattle.ifmap_server.specs.Frames.{Frame, Meaning}
use Rattle.ifmap_server.specs.Output.{EventByRequest, event_of_frame, step_frame}

-- what the machine is asked and answers: an event with its answer, where a body means a request, and else nothing
abbrev pub asked_history : State → EventByRequest → Meaning → History
asked_history state event (Ok request) = (event request, (step state (event request)).1) ∷ []
asked_history state event (Err refusal) = []

-- the same of frames, one after another, from a state on
abbrev pub history_from : State → List Frame → History
history_from state [] = []
history_from state (f ∷ frames) = asked_history state (event_of_frame f) f.meaning ++ history_from (step_frame state f).0 frames

abbrev pub history_of : List Frame → History
history_of frames = history_from (opening_state session_seconds) frames
