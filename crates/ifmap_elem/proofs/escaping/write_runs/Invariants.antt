use Rattle.std.proofs.Common.{◌≡◌, ◌++◌, length}
use Rattle.ifmap_elem.specs.printer.Plain.{escape_bytes}
use Rattle.ifmap_elem.proofs.escaping.write_runs.Given as goal

abbrev pub invariant-loop-rest : goal.invariant-loop-rest
invariant-loop-rest l = l.out.items ++ escape_bytes l.place l.rest ≡ l.initial.out.items ++ escape_bytes l.place l.bytes

abbrev pub decreases-loop-rest : goal.decreases-loop-rest
decreases-loop-rest l = length l.rest
