use Rattle.ifmap_lexer.proofs.AssignmentLaws.{tells_end}
use Rattle.ifmap_lexer.proofs.tags.is_at_end.Goals as goal

pub returns : goal.returns
returns c = tells_end c.args.bytes.now c.split_white.result.0.now c.split_white.result.1.now c.closes.result c.split_white.ensures
    c.closes.ensures
