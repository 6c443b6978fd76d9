-- The calls of a machine that is asked the entries of a log.
use Rattle.std.specs.Prelude.{ℕ, ◌-◌, nat_le, List, [], ◌∷◌, take, drop, Option, None, Some, if◌then◌else◌}
use Rattle.ifmap_desks.specs.Machines.{CoreBook, core_next}
use Rattle.ifmap_desks.specs.declared.events.FitEvent.{FitEvent}
use Rattle.ifmap_dialogue.specs.Desks.{Call}
use Rattle.ifmap_hall.specs.Sights.{run}
use Rattle.ifmap_dialogue.specs.ifmap_machine.declared.events.Answer.{Answer}
use Rattle.ifmap_dialogue.specs.ifmap_machine.State.{State}
use Rattle.ifmap_dialogue.specs.ifmap_machine.Step.{step}

-- entries, each the number of a pass and an event
abbrev pub Log : Type 0
Log = List (ℕ × FitEvent)

-- the event of a call as it was asked
abbrev pub plain_call : FitEvent × Answer → Call
plain_call call = (call.0.event, call.1)

-- each event with its answer, one after another from a state on
abbrev pub calls_from : State → Log → List Call
calls_from state [] = []
calls_from state (e ∷ log) = (e.1.event, (step state e.1.event).1) ∷ calls_from (step state e.1.event).0 log

-- the calls of a book from a place on, where no entry from there on is in its base
abbrev pub calls_since : ℕ → CoreBook → List Call
calls_since place b =
    calls_from (run core_next b.base (take (place - b.from) b.journal.items)).core (drop (place - b.from) b.journal.items)

-- these calls, where they can be told
abbrev pub calls_if_known : ℕ → CoreBook → Option (List Call)
calls_if_known place b = if nat_le b.from place then Some (calls_since place b) else None
