use Rattle.std.proofs.Common.{◌∙◌}
use Rattle.ifmap_dialogue.specs.Answers.{closes}
use Rattle.ifmap_dialogue.proofs.Writing.{writes_reply}
use Rattle.ifmap_dialogue.proofs.sending.send_reply.Goals as goal

pub returns-in-Ok-clause-writes : goal.returns-in-Ok-clause-writes
returns-in-Ok-clause-writes g c =
    writes_reply c.args.reply.now (closes c.args.then) _ c.send.result _ _ (c.as_slice.ensures ∙ c.in-Ok.ensures) c.send.ensures.writes

pub returns-in-Ok-clause-fault : goal.returns-in-Ok-clause-fault
returns-in-Ok-clause-fault g c = c.send.ensures.fault

pub returns-in-Err-clause-writes : goal.returns-in-Err-clause-writes
returns-in-Err-clause-writes g c = c.give_up.ensures
