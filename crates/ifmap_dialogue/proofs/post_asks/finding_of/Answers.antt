use Rattle.std.proofs.Common.{ap, sym}
use Rattle.ifmap_machine.specs.ifmap_replies.declared.replies.Reply.{Reply}
use Rattle.ifmap_dialogue.specs.Findings.{finding_of}
use Rattle.ifmap_dialogue.proofs.Coming.{plain_finding}
use Rattle.ifmap_dialogue.proofs.post_asks.finding_of.Goals as goal

pub returns-in-Polled : goal.returns-in-Polled
returns-in-Polled c = sym (ap (λ (r : Reply). finding_of r c.args.poll) c.in-Polled.is)

pub returns-in_default : goal.returns-in_default
returns-in_default c = plain_finding c.args.reply c.args.poll c.in_default.not-Polled
