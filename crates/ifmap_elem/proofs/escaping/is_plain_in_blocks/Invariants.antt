use Rattle.std.proofs.Common.{◌≤◌, ◌-◌, length}
use Rattle.ifmap_elem.specs.printer.Plain.{ArePlain}
use Rattle.ifmap_elem.proofs.escaping.is_plain_in_blocks.Given as goal

abbrev pub invariant-loop-at : goal.invariant-loop-at
invariant-loop-at l = record { inside : l.at ≤ length l.bytes; plain : ArePlain l.place l.bytes 0 l.at }

abbrev pub decreases-loop-at : goal.decreases-loop-at
decreases-loop-at l = length l.bytes - l.at
