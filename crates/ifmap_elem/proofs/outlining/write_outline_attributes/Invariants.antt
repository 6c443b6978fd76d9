use Rattle.std.proofs.Common.{◌∷◌, [], take, Bor}
use Rattle.std.specs.List.{flat_map}
use Rattle.ifmap_elem.specs.declared.elements.Attribute.{Attribute}
use Rattle.ifmap_elem.specs.Canonical.{attribute_bytes}
use Rattle.ifmap_elem.specs.printer.Pieces.{Adds}
use Rattle.ifmap_elem.proofs.outlining.write_outline_attributes.Given as goal

abbrev pub invariant-loop-attribute : goal.invariant-loop-attribute
invariant-loop-attribute l =
    Adds l.initial.prefixes (flat_map (λ (a : Bor Attribute). a.now.name.space ∷ []) (take l.attribute-index l.attribute-items)) l.prefixes
    (λ rows. flat_map (λ (a : Bor Attribute). attribute_bytes rows a.now)
    (take l.attribute-index l.attribute-items)) l.initial.out.items l.out.items
