use Rattle.std.proofs.Common.{take}
use Rattle.std.specs.List.{flat_map}
use Rattle.ifmap_elem.specs.Arranged.{arrange_child}
use Rattle.ifmap_elem.specs.Canonical.{child_bytes}
use Rattle.ifmap_elem.specs.Namespaces.{spaces_of_child}
use Rattle.ifmap_elem.specs.printer.Pieces.{Adds}
use Rattle.ifmap_elem.proofs.printing.+printing.Given as goal

abbrev pub invariant-write_content-loop-child : goal.invariant-write_content-loop-child
invariant-write_content-loop-child l =
    Adds l.initial.prefixes (flat_map (λ c. spaces_of_child (arrange_child c)) (take l.child-index l.children)) l.prefixes
    (λ rows. flat_map (λ c. child_bytes rows (arrange_child c)) (take l.child-index l.children)) l.initial.out.items l.out.items
