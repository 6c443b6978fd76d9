use Rattle.std.proofs.Common.{◌≡◌, ◌++◌, take}
use Rattle.ifmap_elem.specs.printer.Plain.{escape_bytes}
use Rattle.ifmap_elem.proofs.escaping.write_each.Given as goal

abbrev pub invariant-loop-byte : goal.invariant-loop-byte
invariant-loop-byte l = l.out.items ≡ l.initial.out.items ++ escape_bytes l.place (take l.byte-index l.bytes)
