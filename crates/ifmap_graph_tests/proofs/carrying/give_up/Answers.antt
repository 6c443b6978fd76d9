use Rattle.ifmap_graph.specs.Seen.{rows_now}
use Rattle.ifmap_graph_tests.proofs.Begun.{steady_by}
use Rattle.ifmap_graph_tests.proofs.carrying.give_up.Goals as goal

pub returns : goal.returns
returns c =
    steady_by c.args.graph.now c.forget.new.self (rows_now c.args.graph.now) c.requires.own c.requires.before
    c.forget.ensures.done.still c.forget.ensures.now c.forget.ensures.done.own
