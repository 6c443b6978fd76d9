use Rattle.ifmap_machine.specs.State.{opening_state}
use Rattle.ifmap_machine.proofs.Goods.{graph_none}
use Rattle.ifmap_machine.proofs.Graphs.{history_good}
use Rattle.ifmap_machine.proofs.Lives.{lives_after}
use Rattle.ifmap_machine.proofs.laws.attachments_are_apart_and_live.Goals as goal
use Rattle.ifmap_folds.specs.ifmap_plans.Plans.{AreWhole}
use Rattle.ifmap_publish.specs.ifmap_view.Attachments.{IsGraph}

pub returns-clause-lives : goal.returns-clause-lives
returns-clause-lives c = λ ttl history. lives_after ttl history

pub returns-clause-graph : goal.returns-clause-graph
returns-clause-graph c = λ ttl history legal fit.
    history_good IsGraph graph_none (λ who rows g. c.retracting_keeps_graphs.ensures.graph who rows g)
    (λ rows by ops name f g. c.publishing_keeps_graphs.ensures.graph rows by ops f g) (opening_state ttl) history fit graph_none

pub returns-clause-whole : goal.returns-clause-whole
returns-clause-whole c = λ ttl history legal fit.
    history_good AreWhole tt (λ who rows g. c.retracting_keeps_graphs.ensures.whole who rows g)
    (λ rows by ops name f g. c.publishing_keeps_graphs.ensures.whole rows by ops name f g) (opening_state ttl) history fit tt
