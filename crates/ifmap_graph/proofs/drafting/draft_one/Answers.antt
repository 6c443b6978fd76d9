use Rattle.std.proofs.Common.{subst}
use Rattle.ifmap_graph.proofs.drafting.draft_one.Goals as goal
use Rattle.ifmap_graph.specs.Drafted.{StayShelved}

pub returns-clause-stays : goal.returns-clause-stays
returns-clause-stays c = subst (λ s. StayShelved s c.propose.new.self) c.make_next.ensures.same c.propose.ensures.stays
