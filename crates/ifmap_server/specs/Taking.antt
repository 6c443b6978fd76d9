-- What taking bytes from a source leaves, whatever it answers. No public clause cites this file.
use Rattle.std.specs.Prelude.{ℕ, ◌≤◌, List, Option, Result, Ok, Err, ⊤}
use Rattle.ifmap_io.specs.Causes.{Rose}
use Rattle.ifmap_input.specs.Inputs.{TakesFromSource}
use Rattle.ifmap_server.specs.declared.errors.ReplayError.{ReplayError}
use Rattle.ifmap_server.specs.declared.errors.ReplayError.TheVariants.{FrameFault, NoMemory, ReadFault, WriteFault}

-- this holds, unless memory was lacked
abbrev pub UnlessMemoryLacks : {T : Type 0} → Result T ReplayError → Type 0 → Type 0
UnlessMemoryLacks (Ok x) A = A
UnlessMemoryLacks (Err FrameFault) A = A
UnlessMemoryLacks (Err ReadFault) A = A
UnlessMemoryLacks (Err WriteFault) A = A
UnlessMemoryLacks (Err NoMemory) A = ⊤

-- this holds where a read failed
abbrev pub IfReadFails : {T : Type 0} → Result T ReplayError → Type 0 → Type 0
IfReadFails (Ok x) A = ⊤
IfReadFails (Err FrameFault) A = ⊤
IfReadFails (Err ReadFault) A = A
IfReadFails (Err WriteFault) A = ⊤
IfReadFails (Err NoMemory) A = ⊤

-- from a source to what is pending, which stand in pairs before and after: what is pending grew by what was taken, unless memory was
-- lacked; the count of faults did not fall, and rose where a read failed
pub record TakesBytes {X T : Type 0} (left : X → Option (List ℕ)) (faults : X → ℕ) (old new : X × List ℕ) (result : Result T ReplayError)
    : Type 0 where
  pub taken : UnlessMemoryLacks result (TakesFromSource (left old.0) (left new.0) old.1 new.1)
  pub rose : IfReadFails result (Rose (faults old.0) (faults new.0))
  pub later : faults old.0 ≤ faults new.0
