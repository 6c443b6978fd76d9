use Rattle.ifmap_graph_tests.proofs.Begun.{steady_by}
use Rattle.ifmap_graph_tests.proofs.carrying.take_back.Goals as goal

pub returns : goal.returns
returns c =
    let made = c.requires
    in steady_by c.args.graph.now c.undo.new.self made.rows made.steady.own made.before c.undo.ensures.done.still
    (c.undo.ensures.back made.rows made.links made.back).0 c.undo.ensures.done.own
