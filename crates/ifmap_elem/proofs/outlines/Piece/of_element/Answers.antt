use Rattle.ifmap_elem.specs.laws.OutlineLaws.{outlined_shared}
use Rattle.ifmap_elem.proofs.outlines.Piece.of_element.Goals as goal

pub returns : goal.returns
returns c = outlined_shared _
