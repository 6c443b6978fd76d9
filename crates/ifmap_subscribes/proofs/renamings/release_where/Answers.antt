use Rattle.ifmap_subscribes.proofs.RenamingStarts.{released_none}
use Rattle.ifmap_subscribes.proofs.renamings.release_where.Goals as goal

pub returns-in_default-clause-lets_go : goal.returns-in_default-clause-lets_go
returns-in_default-clause-lets_go c = released_none c.args.graph.now
