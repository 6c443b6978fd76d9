-- The statuses that a replay ends with.
use Rattle.std.specs.Prelude.{ℕ, Result, Ok, Err}
use Rattle.ifmap_io.specs.Statuses.{done_status, no_memory_status, read_fault_status, script_fault_status, write_fault_status}
use Rattle.ifmap_server.specs.declared.errors.ReplayError.{ReplayError}
use Rattle.ifmap_server.specs.declared.errors.ReplayError.TheVariants.{FrameFault, NoMemory, ReadFault, WriteFault}

abbrev pub status_of : Result (Unit {0}) ReplayError → ℕ
status_of (Ok _) = done_status
status_of (Err FrameFault) = script_fault_status
status_of (Err ReadFault) = read_fault_status
status_of (Err WriteFault) = write_fault_status
status_of (Err NoMemory) = no_memory_status
