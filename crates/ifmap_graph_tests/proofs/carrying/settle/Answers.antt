use Rattle.ifmap_graph.specs.Seen.{rows_now}
use Rattle.ifmap_graph_tests.proofs.Begun.{steady_by}
use Rattle.ifmap_graph_tests.proofs.carrying.settle.Goals as goal

pub returns : goal.returns
returns c =
    let steady = c.requires.steady
    in let e = c.settle-plan.ensures
    in steady_by c.args.graph.now c.settle-plan.new.self (rows_now c.args.graph.now) steady.own steady.whole e.done.still e.now e.done.own
