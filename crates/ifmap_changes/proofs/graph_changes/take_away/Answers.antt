use Rattle.ifmap_changes.specs.Between.{state_now}
use Rattle.ifmap_changes.specs.KeptLaws.{stays_kept}
use Rattle.ifmap_changes.proofs.Exits.{none_away}
use Rattle.ifmap_changes.proofs.Taken.{found_within, taken_canon, taken_told, taken_within}
use Rattle.ifmap_changes.proofs.graph_changes.take_away.Goals as goal

pub make_change-requires : goal.make_change-requires
make_change-requires g c = record {
  can = record {
    steady = c.requires.steady;
    ready = c.requires.ready;
    fits = c.in_ok-plan.ensures.plan.fits;
    canon = taken_canon c.args.parts.now c.in_ok-plan.ensures.plan;
  };
}

pub returns-in_err-plan-clause-takes : goal.returns-in_err-plan-clause-takes
returns-in_err-plan-clause-takes g c =
    none_away c.from_residual.result c.from_residual.ensures.0 (stays_kept c.args.parts.now c.requires.steady)

pub returns-in_err-plan-clause-steps : goal.returns-in_err-plan-clause-steps
returns-in_err-plan-clause-steps g c =
    found_within c.args.who.now (state_now c.args.asking.now c.args.parts.now c.args.pending.now) c.args.steps.now
    c.plan_retraction.new.steps c.plan_retraction.ensures.steps

pub returns-clause-takes : goal.returns-clause-takes
returns-clause-takes g c =
    let e = c.make_change.ensures.tells
    in record {
      told = taken_told c.args.parts.now c.in_ok-plan.ensures.plan c.make_change.result c.args.asking.now c.args.pending.now
          c.make_change.new.pending c.make_change.new.parts e.told;
      kept = e.kept;
    }

pub returns-clause-bare : goal.returns-clause-bare
returns-clause-bare g c = c.make_change.ensures.tells.bare

pub returns-clause-steps : goal.returns-clause-steps
returns-clause-steps g c =
    taken_within c.args.parts.now c.in_ok-plan.ensures.plan c.args.asking.now c.args.pending.now c.args.steps.now
    c.plan_retraction.new.steps c.make_change.new.steps c.plan_retraction.ensures.steps c.make_change.ensures.steps
