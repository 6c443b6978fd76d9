use Rattle.ifmap_elem.specs.laws.OutlineLaws.{outlined_is}
use Rattle.ifmap_elem.proofs.outlines.Outline.with_local.Goals as goal

pub returns : goal.returns
returns c = outlined_is _
