use Rattle.std.proofs.Common.{arith}
use Rattle.ifmap_elem.proofs.EscapeLaws.{lacks_from_lanes}
use Rattle.ifmap_elem.proofs.escaping.lacks.Goals as goal

pub returns : goal.returns
returns c = lacks_from_lanes c.args.bytes.now c.args.at 16 c.args.byte c.requires (omega arith)
