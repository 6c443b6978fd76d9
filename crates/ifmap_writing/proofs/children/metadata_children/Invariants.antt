use Rattle.std.proofs.Common.{◌≡◌, map, take}
use Rattle.ifmap_elem.specs.Building.{as_children}
use Rattle.ifmap_writing.proofs.children.metadata_children.Given as goal

abbrev pub invariant-loop-metadata : goal.invariant-loop-metadata
invariant-loop-metadata l =
    l.children.items ≡ as_children (map (λ metadata. metadata.element) (take l.metadata-index l.elements))
