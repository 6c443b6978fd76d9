-- A drill, event by event.
use Rattle.std.specs.Prelude.{ℕ, zero, suc, List, [], ◌∷◌, ◌++◌, nat_lt, if◌then◌else◌}
use Rattle.rand_core.specs.Pcg32Seed.{pcg32_seed}
use Rattle.rand_pcg.specs.Lcg.{Lcg}
use Rattle.rand_pcg.specs.Pcg.{pcg64_of_seed}
use Rattle.ifmap_core.specs.ifmap_machine.declared.events.Answer.{Answer}
use Rattle.ifmap_core.specs.ifmap_machine.declared.events.Answer.TheVariants.{Reply, Held, Heard}
use Rattle.ifmap_core.specs.ifmap_machine.Events.{Event}
use Rattle.ifmap_core.specs.ifmap_machine.Legal.{History}
use Rattle.ifmap_core.specs.ifmap_machine.State.{State, opening_state, session_seconds}
use Rattle.ifmap_core.specs.ifmap_machine.Step.{step}
use Rattle.ifmap_core.specs.ifmap_replies.declared.replies.Reply.TheVariants as the_reply
use Rattle.ifmap_requests.specs.declared.requests.Request.{Request}
use Rattle.ifmap_drill.specs.Events.{event_at}
use Rattle.ifmap_drill.specs.Extent.{client_count}
use Rattle.ifmap_drill.specs.Requests.{request_at}

-- a drill between two events: the events so far with their answers, the state after them, the ids of the sessions that the first ten
-- events were given, and the generator
pub record Drilling : Type 0 where
  pub history : History
  pub state : State
  pub ids : List (List ℕ)
  pub draws : Lcg

abbrev pub drill_beginning : ℕ → Drilling
drill_beginning key = record {
  history = [];
  state = opening_state session_seconds;
  ids = [];
  draws = pcg64_of_seed (pcg32_seed 32 key);
}

-- what event i asks, and the generator after its draws
abbrev pub asked_at : ℕ → Drilling → Request × Lcg
asked_at i d = request_at i d.ids d.draws

-- the id that an answer gives, where it gives one
abbrev pub id_given : Answer → List ℕ
id_given (Reply (the_reply.NewSession session publisher limit)) = session
id_given (Reply the_reply.Renewed) = []
id_given (Reply the_reply.Ended) = []
id_given (Reply the_reply.Published) = []
id_given (Reply the_reply.Subscribed) = []
id_given (Reply the_reply.Purged) = []
id_given (Reply (the_reply.Found entries)) = []
id_given (Reply (the_reply.Polled items)) = []
id_given (Reply (the_reply.Error code note)) = []
id_given Held = []
id_given Heard = []

-- the ids after event i, by its answer
abbrev pub ids_after : ℕ → Answer → List (List ℕ) → List (List ℕ)
ids_after i answer ids = if nat_lt i client_count then ids ++ id_given answer ∷ [] else ids

-- the drill after the answer to event i, which asks a request
abbrev pub after_answer : ℕ → Event → Lcg → Drilling → Drilling
after_answer i event draws d = record {
  history = d.history ++ (event, (step d.state event).1) ∷ [];
  state = (step d.state event).0;
  ids = ids_after i (step d.state event).1 d.ids;
  draws = draws;
}

-- after event i, as it is made and answered
abbrev pub after_event : ℕ → Drilling → Drilling
after_event i d = after_answer i (event_at i (asked_at i d).0) (asked_at i d).1 d

-- the drill of a key after so many events
abbrev pub drilling_after : ℕ → ℕ → Drilling
drilling_after key zero = drill_beginning key
drilling_after key (suc n) = after_event n (drilling_after key n)

-- all events of a drill with their answers
abbrev pub drill_history : ℕ → ℕ → History
drill_history key count = (drilling_after key count).history
