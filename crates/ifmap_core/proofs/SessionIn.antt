-- The session of a state that a request names by its id.
use Rattle.std.proofs.Common.{ℕ, List, Option}
use Rattle.ifmap_subscribes.specs.ifmap_machine.State.{State}
use Rattle.ifmap_session.specs.Sessions.{Session, session_with_id}

abbrev pub session_in : State → List ℕ → Option Session
session_in state id = session_with_id id state.sessions
