use Rattle.ifmap_core.proofs.InSession.{another_polled, nobody_polled, polls_own}
use Rattle.ifmap_core.proofs.answering.poll.Goals as goal

pub returns-in-Own : goal.returns-in-Own
returns-in-Own c = polls_own c.requires c.args.id.now c.in-Own.serial c.in-Own.ensures c.args.again

pub returns-in-Another : goal.returns-in-Another
returns-in-Another c = another_polled c.requires c.args.id.now c.args.again c.in-Another.ensures c.refuse.result c.refuse.ensures

pub returns-in-Nobody : goal.returns-in-Nobody
returns-in-Nobody c = nobody_polled c.requires c.args.id.now c.args.again c.in-Nobody.ensures c.tell_end.result c.tell_end.ensures
