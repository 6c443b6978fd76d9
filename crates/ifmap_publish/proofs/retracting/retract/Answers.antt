use Rattle.std.proofs.Common.{arith, option_copied}
use Rattle.ifmap_publish.proofs.Retracted.{falls, so_far_next, so_far_none, steps_are, they_are_changes, they_are_exact, they_fit, they_lead}
use Rattle.ifmap_publish.proofs.retracting.retract.Goals as goal

pub loop-item-init : goal.loop-item-init
loop-item-init g c = so_far_none c.args.who.now (g.G.View.rows c.args.graph.now) c.new-changes.result.items c.args.steps.now
    c.new-changes.ensures.items

pub loop-item-preserved : goal.loop-item-preserved
loop-item-preserved g c =
    so_far_next c.args.who.now (g.G.View.rows c.args.graph.now) c.loop-item.changes.items c.add_retracted.new.changes.items
    (option_copied c.loop-item.last) c.args.steps.now c.loop-item.steps c.item_after.new.steps c.in-Some.item.now c.loop-item.invariant
    c.in-Some.ensures.found c.in-Some.ensures.canon c.item_after.ensures.step c.in_ok-add_retracted.ensures

pub loop-item-smaller : goal.loop-item-smaller
loop-item-smaller g c =
    falls (option_copied c.loop-item.last) c.in-Some.item.now (g.G.View.rows c.args.graph.now) c.in-Some.ensures.found.above
    c.in-Some.ensures.found.carries

pub returns-clause-fits : goal.returns-clause-fits
returns-clause-fits g c =
    they_fit _ _ _ _ _ _ c.loop-item.invariant c.in_default.ensures.none c.requires.graph c.requires.whole

pub returns-clause-applies : goal.returns-clause-applies
returns-clause-applies g c =
    they_lead _ _ _ _ _ _ c.loop-item.invariant c.in_default.ensures.none c.requires.graph c.requires.whole

pub returns-clause-exact : goal.returns-clause-exact
returns-clause-exact g c =
    they_are_exact _ _ _ _ _ _ c.loop-item.invariant c.in_default.ensures.none c.requires.graph c.requires.whole

pub returns-clause-changes : goal.returns-clause-changes
returns-clause-changes g c = they_are_changes _ _ _ _ _ _ c.loop-item.invariant c.in_default.ensures.none

pub returns-clause-steps : goal.returns-clause-steps
returns-clause-steps g c =
    let n = steps_are _ _ _ _ _ _ c.loop-item.invariant in
    omega (arith, n, c.item_after.ensures.step)

pub returns-in_err-add_retracted-clause-steps : goal.returns-in_err-add_retracted-clause-steps
returns-in_err-add_retracted-clause-steps g c =
    let n = steps_are _ _ _ _ _ _ c.loop-item.invariant in
    omega (arith, n, c.item_after.ensures.step)
