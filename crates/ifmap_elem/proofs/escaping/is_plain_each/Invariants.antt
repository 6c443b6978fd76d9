use Rattle.ifmap_elem.specs.printer.Plain.{ArePlain}
use Rattle.ifmap_elem.proofs.escaping.is_plain_each.Given as goal

abbrev pub invariant-loop-byte : goal.invariant-loop-byte
invariant-loop-byte l = ArePlain l.place l.bytes 0 l.byte-index
