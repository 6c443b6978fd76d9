use Rattle.ifmap_elem.specs.laws.OutlineLaws.{outlined_text}
use Rattle.ifmap_elem.proofs.outlines.Piece.text.Goals as goal

pub returns : goal.returns
returns c = outlined_text _
