use Rattle.ifmap_graph.specs.Seen.{rows_now}
use Rattle.ifmap_changes.proofs.graph_changes.plan_retraction.Goals as goal

pub returns-clause-plan : goal.returns-clause-plan
returns-clause-plan g c =
    let e = c.in_ok-plan.ensures
    in record {
      fits = e.fits;
      graph = c.retracting_keeps_graphs.ensures.graph c.args.who.now (rows_now c.args.graph.now) c.is_view.ensures.graph;
      after = e.applies;
      notes = e.notes;
    }

pub returns-in_err-plan-clause-steps : goal.returns-in_err-plan-clause-steps
returns-in_err-plan-clause-steps g c = c.retract.ensures.steps

pub returns-clause-steps : goal.returns-clause-steps
returns-clause-steps g c = c.retract.ensures.steps
