use Rattle.ifmap_subscribes.proofs.Ready.{given_after}
use Rattle.ifmap_subscribes.proofs.readying.ready_ops.Goals as goal

pub returns-in-Err-clause-given_up : goal.returns-in-Err-clause-given_up
returns-in-Err-clause-given_up g c =
    given_after c.args.parts.now c.ready_all.new.parts c.give_up.new.parts c.ready_all.ensures.makes.holds c.give_up.ensures.given_up
