use Rattle.ifmap_graph.specs.Seen.{rows_next}
use Rattle.ifmap_graph_tests.proofs.Begun.{steady_by}
use Rattle.ifmap_graph_tests.proofs.carrying.commit.Goals as goal

pub returns : goal.returns
returns c =
    let e = c.commit-plan.ensures
    in steady_by c.args.graph.now c.commit-plan.new.self (rows_next c.args.graph.now) c.requires.own c.requires.after
    e.done.still e.now e.done.own
