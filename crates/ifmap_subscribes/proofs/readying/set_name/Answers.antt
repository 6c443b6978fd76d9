use Rattle.ifmap_subscribes.proofs.OfNames.{apart_at}
use Rattle.ifmap_subscribes.proofs.readying.set_name.Goals as goal

pub returns-in-Some-clause-others : goal.returns-in-Some-clause-others
returns-in-Some-clause-others c = λ other apart.
    ((c.get_mut.follows.holds c.args.now).3 c.requires).2 other (apart_at c.args.name.now other apart)
