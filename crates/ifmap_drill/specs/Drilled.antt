-- What a drill does to its sink, by its status.
use Rattle.std.specs.Prelude.{◌≡◌, ◌⊎◌, ℕ, List, Option, take}
use Rattle.std.specs.Io.KnownBytes.{Appends, Keeps}
use Rattle.ifmap_io.specs.Causes.{Rose}
use Rattle.ifmap_io.specs.Statuses.{done_status, no_memory_status, write_fault_status}
use Rattle.ifmap_core.specs.ifmap_machine.Agreeing.{Agrees}
use Rattle.ifmap_core.specs.ifmap_machine.State.{session_seconds}
use Rattle.ifmap_drill.specs.Drills.{drill_history}
use Rattle.ifmap_drill.specs.Summaries.{drill_text}

-- what contracts see of a sink at one moment: what it holds, where that is told, and how often a write has failed
pub record SinkSeen : Type 0 where
  pub held : Option (List ℕ)
  pub faults : ℕ

abbrev pub side : Option (List ℕ) → ℕ → SinkSeen
side held faults = record { held = held; faults = faults }

module _ (text : List ℕ) (before after : SinkSeen) where
  -- all of the text was written
  abbrev pub IsWritten : ℕ → Type 0
  IsWritten status = (status ≡ done_status) × Appends before.held after.held text

  -- a write failed, and has written a prefix of the text
  abbrev pub IsCut : ℕ → Type 0
  IsCut status =
      (status ≡ write_fault_status) × ((n : ℕ) × Appends before.held after.held (take n text))
      × Rose before.faults after.faults

  -- want of memory, and nothing was written
  abbrev pub IsNothingWritten : ℕ → Type 0
  IsNothingWritten status = (status ≡ no_memory_status) × Keeps before.held after.held

  abbrev pub IsEnded : ℕ → Type 0
  IsEnded status = IsWritten status ⊎ (IsCut status ⊎ IsNothingWritten status)

-- the status tells what was written of the summary; and the clients agree: after each poll that is told something or held, what its
-- client folds of all that it was told is, for each subscription that its session keeps, the fresh result of its search
pub record Drills (key count status : ℕ) (before after : SinkSeen) : Type 0 where
  pub ended : IsEnded (drill_text key count) before after status
  pub agrees : Agrees session_seconds (drill_history key count)
