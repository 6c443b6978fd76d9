use Rattle.std.proofs.Common.{arith}
use Rattle.ifmap_server.specs.Frames.{longest_body}
use Rattle.ifmap_server.proofs.Cuts.{number_beyond}
use Rattle.ifmap_server.proofs.headers.body_size.Goals as goal

pub returns-else-size-le-LONGEST_BODY : goal.returns-else-size-le-LONGEST_BODY
returns-else-size-le-LONGEST_BODY c =
    number_beyond longest_body c.in_ok-size.size c.args.text.now (omega arith) c.in_ok-size.ensures.0 c.in_ok-size.ensures.1 (omega arith)
