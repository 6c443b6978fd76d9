use Rattle.ifmap_elem.specs.laws.OutlineLaws.{outlined_inside}
use Rattle.ifmap_elem.proofs.outlines.Outline.into_piece.Goals as goal

pub returns : goal.returns
returns c = outlined_inside _
