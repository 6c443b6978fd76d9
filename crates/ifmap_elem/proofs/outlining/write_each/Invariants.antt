use Rattle.std.proofs.Common.{◌∷◌, [], take}
use Rattle.std.specs.List.{flat_map}
use Rattle.ifmap_elem.specs.declared.elements.Attribute.{Attribute}
use Rattle.ifmap_elem.specs.Canonical.{attribute_bytes}
use Rattle.ifmap_elem.specs.printer.Pieces.{Adds}
use Rattle.ifmap_elem.proofs.outlining.write_each.Given as goal

abbrev pub invariant-loop-attribute : goal.invariant-loop-attribute
invariant-loop-attribute l =
    Adds l.initial.prefixes (flat_map (λ (a : Attribute). a.name.space ∷ []) (take l.attribute-index l.attributes)) l.prefixes
    (λ rows. flat_map (attribute_bytes rows) (take l.attribute-index l.attributes)) l.initial.out.items l.out.items
