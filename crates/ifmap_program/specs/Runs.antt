-- What the program does with its words.
use Rattle.std.specs.Prelude.{◌≡◌, ◌≢◌, ℕ, ◌⊎◌, List, length}
use Rattle.std.specs.Io.KnownBytes.{Keeps}
use Rattle.ifmap_command.specs.declared.forms.Form.{Form}
use Rattle.ifmap_command.specs.declared.forms.Form.TheVariants as form
use Rattle.ifmap_command.specs.Words.{Asks}
use Rattle.ifmap_drill.specs.Drilled.{Drills, side}
use Rattle.ifmap_io.specs.Statuses.{no_memory_status}
use Rattle.ifmap_program.specs.Usage.{TellsUsage}
use Rattle.ifmap_server.specs.Ends.{SourceAndSink}
use Rattle.ifmap_server.specs.Replayed.{Replays}
use Rattle.ifmap_serving.specs.declared.stands.Stand.{Stand}
use Rattle.ifmap_serving.specs.Stands.{AreServed, AreUnserved, status_of_stands}
use Rattle.ifmap_serving.specs.Works.{DoorSeen}

-- stands were served over one hall, and the status tells how that went; or there was want of memory before that, and no door was touched
pub record ServesStands {D G : Type 0} (gives : ℕ → Type 0) (see : D → DoorSeen) (key : List ℕ) (before after : List (Stand D G))
    (status : ℕ)
    : Type 0 where
  pub unserved : status ≡ no_memory_status → AreUnserved before after
  pub served : status ≢ no_memory_status → AreServed gives see key before after
  pub told : status ≢ no_memory_status → status ≡ status_of_stands after

-- what contracts see of the outside at one moment: a source and a sink, and the stands
pub record Outside (D G : Type 0) : Type 0 where
  pub ends : SourceAndSink
  pub stands : List (Stand D G)

abbrev pub outside_seen : {D G : Type 0} → SourceAndSink → List (Stand D G) → Outside D G
outside_seen ends stands = record { ends = ends; stands = stands }

module _ {D G : Type 0} where
  -- the stands were left alone
  abbrev pub ServesNothing : Outside D G → Outside D G → Type 0
  ServesNothing before after = after.stands ≡ before.stands

  -- nothing was read
  abbrev pub ReadsNothing : Outside D G → Outside D G → Type 0
  ReadsNothing before after = Keeps before.ends.left after.ends.left

  -- nothing was written
  abbrev pub WritesNothing : Outside D G → Outside D G → Type 0
  WritesNothing before after = Keeps before.ends.held after.ends.held

  -- the usage was told, and nothing else was done
  abbrev pub TellsOnlyUsage : ℕ → Outside D G → Outside D G → Type 0
  TellsOnlyUsage status before after =
      ServesNothing before after × ReadsNothing before after
      × TellsUsage status before.ends.held after.ends.held before.ends.write_faults after.ends.write_faults

  module _ (gives : ℕ → Type 0) (see : D → DoorSeen) (key : List ℕ) where
    -- the stands were served, where there are as many as workers are asked for; else the usage was told
    abbrev pub ServesAs : ℕ → ℕ → Outside D G → Outside D G → Type 0
    ServesAs workers status before after =
        ((length before.stands ≡ workers) × ReadsNothing before after × WritesNothing before after
        × ServesStands gives see key before.stands after.stands status)
        ⊎ ((length before.stands ≢ workers) × TellsOnlyUsage status before after)

    -- what was asked was done
    abbrev pub Does : Form → ℕ → Outside D G → Outside D G → Type 0
    Does form.Replay status before after = ServesNothing before after × Replays status before.ends after.ends
    Does (form.Drill number count) status before after =
        ServesNothing before after × ReadsNothing before after
        × Drills number count status (side before.ends.held before.ends.write_faults) (side after.ends.held after.ends.write_faults)
    Does (form.Serve address workers) status before after = ServesAs workers status before after
    Does form.Wrong status before after = TellsOnlyUsage status before after
    Does form.NoMemory status before after =
        (status ≡ no_memory_status) × ServesNothing before after × ReadsNothing before after
        × WritesNothing before after

    -- the words ask for that, and it was done
    abbrev pub Runs : List (List ℕ) → ℕ → Outside D G → Outside D G → Type 0
    Runs words status before after = (asked : Form) × Asks words asked × Does asked status before after
