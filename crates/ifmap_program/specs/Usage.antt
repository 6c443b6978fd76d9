-- What is told where the words ask for nothing that the program does.
use Rattle.std.specs.Prelude.{◌≡◌, ℕ, ◌⊎◌, List, Option, codes}
use Rattle.std.specs.Io.KnownBytes.{Appends}
use Rattle.ifmap_io.specs.Causes.{Rose}
use Rattle.ifmap_io.specs.Statuses.{usage_status, write_fault_status}
use Rattle.ifmap_server.specs.Output.{AppendsPrefix}

abbrev pub usage_line : List ℕ
usage_line = codes "usage: mapd replay | drill KEY COUNT | serve ADDRESS WORKERS\n"

-- the status is that of a usage, and the sink gained the usage line; or it is that of a write's fault, and the sink gained a prefix
-- of the line, where a write failed
abbrev pub TellsUsage : (status : ℕ) (before after : Option (List ℕ)) (faults now : ℕ) → Type 0
TellsUsage status before after faults now =
    ((status ≡ usage_status) × Appends before after usage_line)
    ⊎ ((status ≡ write_fault_status) × AppendsPrefix before after usage_line × Rose faults now)
