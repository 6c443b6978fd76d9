use Rattle.ifmap_graph.specs.Seen.{rows_now}
use Rattle.ifmap_graph_tests.proofs.Begun.{begun_by, few_own, steady_by}
use Rattle.ifmap_graph_tests.proofs.carrying.begin.Goals as goal

pub reserve-requires-clause-few : goal.reserve-requires-clause-few
reserve-requires-clause-few c = few_own c.args.graph.now c.requires.steady.own

pub returns-in-Ok : goal.returns-in-Ok
returns-in-Ok c =
    let e = c.in-Ok.ensures
    in begun_by c.args.graph.now c.reserve.new.self c.in-Ok.ready c.args.plan c.requires.steady c.requires.fits e.plan e.out e.after
    e.now e.own e.waits

pub returns-in-Err : goal.returns-in-Err
returns-in-Err c =
    let e = c.in-Err.ensures
    in steady_by c.args.graph.now c.reserve.new.self (rows_now c.args.graph.now) c.requires.steady.own c.requires.steady.whole
    e.still e.now e.own
