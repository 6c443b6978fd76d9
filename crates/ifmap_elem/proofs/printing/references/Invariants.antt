use Rattle.std.proofs.Common.{◌≡◌, take}
use Rattle.ifmap_elem.proofs.KeyLaws.{bytes_of}
use Rattle.ifmap_elem.proofs.printing.references.Given as goal

abbrev pub invariant-loop-text : goal.invariant-loop-text
invariant-loop-text l = bytes_of l.made.items ≡ take l.text-index l.texts
