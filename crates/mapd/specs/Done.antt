-- What the program did, as its status tells.
use Rattle.std.specs.Prelude.{◌≡◌, ℕ, ◌⊎◌, List, [], None, length}
use Rattle.ifmap_command.specs.Words.{IsServe}
use Rattle.ifmap_io.specs.Statuses.{link_fault_status, no_memory_status}
use Rattle.ifmap_program.specs.Runs.{Runs, outside_seen}
use Rattle.ifmap_program.specs.ifmap_server.Ends.{SourceAndSink}
use Rattle.ifmap_serving.specs.declared.stands.Stand.{Stand}
use Rattle.ifmap_serving.specs.Works.{DoorSeen}
use Rattle.mapd.specs.declared.outside.OpenGate.{OpenGate}

-- the system's clock claims nothing of its moments
abbrev pub any_moment : ℕ → Type 0
any_moment moment = Unit {0}

-- a door over a listener tells no links, and is seen as its count of faults
abbrev pub listener_seen : ℕ → DoorSeen
listener_seen faults = record { links = None; faults = faults }

-- the words were carried out over these stands, with some key
abbrev pub RunsOver : List (Stand ℕ OpenGate) → List (List ℕ) → ℕ → SourceAndSink → SourceAndSink → Type 0
RunsOver stands words status before after =
    (key : List ℕ) × (left : List (Stand ℕ OpenGate))
    × Runs any_moment listener_seen key words status (outside_seen before stands)
    (outside_seen after left)

-- no server began, with the status for that it cannot listen or has no random key, or no memory, and nothing was read or written
abbrev pub BeginsNothing : ℕ → SourceAndSink → SourceAndSink → Type 0
BeginsNothing status before after = ((status ≡ link_fault_status) ⊎ (status ≡ no_memory_status)) × (after ≡ before)

-- the words were carried out over a stand for each worker, or no server began
abbrev pub ServesOrBeginsNone : ℕ → List (List ℕ) → ℕ → SourceAndSink → SourceAndSink → Type 0
ServesOrBeginsNone workers words status before after =
    BeginsNothing status before after
    ⊎ ((stands : List (Stand ℕ OpenGate)) × (length stands ≡ workers) × RunsOver stands words status before after)

-- the words were carried out with nothing to serve, or they ask for a server, and were carried out as one or none began
abbrev pub IsRunDone : List (List ℕ) → ℕ → SourceAndSink → SourceAndSink → Type 0
IsRunDone words status before after =
    RunsOver [] words status before after
    ⊎ ((address : List ℕ) × (workers : ℕ) × IsServe words address workers × ServesOrBeginsNone workers words status before after)
