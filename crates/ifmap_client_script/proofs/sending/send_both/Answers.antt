use Rattle.ifmap_client_script.proofs.Pieces.{cut_first, then_second}
use Rattle.ifmap_client_script.proofs.sending.send_both.Goals as goal

pub returns-in-Ok-clause-bytes : goal.returns-in-Ok-clause-bytes
returns-in-Ok-clause-bytes g c =
    then_second _ _ _ _ _ _ c.args.line.now c.args.body.now c.send.result c.in-Ok.ensures.bytes c.write.ensures.later
    c.send.ensures.bytes

pub returns-in-Err-clause-bytes : goal.returns-in-Err-clause-bytes
returns-in-Err-clause-bytes g c =
    cut_first _ _ _ _ c.args.line.now c.args.body.now c.in-Err.failure c.in-Err.ensures.bytes
