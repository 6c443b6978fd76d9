use Rattle.std.proofs.Common.{◌≡◌, take}
use Rattle.std.specs.List.{All}
use Rattle.ifmap_elem.specs.printer.Occurrences.{occurrences_of}
use Rattle.ifmap_elem.proofs.comparing.have_same_members.Given as goal

abbrev pub invariant-loop-attribute : goal.invariant-loop-attribute
invariant-loop-attribute l = All (λ a. occurrences_of a l.one ≡ occurrences_of a l.other) (take l.attribute-index l.one)
