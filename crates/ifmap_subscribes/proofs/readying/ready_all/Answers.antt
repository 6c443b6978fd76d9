use Rattle.std.proofs.Common.{◌≡◌, ◌<◌, subst, drop, length, get_or}
use Rattle.ifmap_changes.specs.ifmap_graph.Seen.{rows_now}
use Rattle.ifmap_changes.specs.ifmap_machine.Subscribing.{subscribe_ops}
use Rattle.ifmap_subscribes.proofs.OfScene.{makes_no_more, rest_full, rest_made}
use Rattle.ifmap_subscribes.proofs.Ready.{holds_on}
use Rattle.ifmap_subscribes.proofs.Spending.{one_more, one_stops}
use Rattle.ifmap_subscribes.specs.Bounds.{no_ops}
use Rattle.ifmap_subscribes.specs.Readying.{told_then}
use Rattle.ifmap_subscribes.proofs.readying.ready_all.Given as given
use Rattle.ifmap_subscribes.proofs.readying.ready_all.Goals as goal
use Rattle.ifmap_subscribes.proofs.readying.ready_all.Goals.{After-ready_op}

-- the operation of this turn is the one with this index
low : (g : given.Over) (c : After-ready_op g) → c.loop-op.op-index < length c.args.ops.now
low g c =
    subst (λ xs. c.loop-op.op-index < length xs) c.as_slice-op-items.ensures c.loop-op-test.true

here : (g : given.Over) (c : After-ready_op g) → c.op-item.result ≡ get_or c.args.ops.now c.loop-op.op-index c.op-item.result
here g c =
    subst (λ xs. c.op-item.result ≡ get_or xs c.loop-op.op-index c.op-item.result) c.as_slice-op-items.ensures c.op-item.is

pub returns-in_err-ready_op-clause-makes : goal.returns-in_err-ready_op-clause-makes
returns-in_err-ready_op-clause-makes g c =
    let s = c.args.scene.now in
    let p = c.args.parts.now in
    let ops = c.args.ops.now in
    let l = c.loop-op in
    let made = c.in_err-ready_op.ensures.makes in
    let place = (goal.at.returns-in_err-ready_op-clause-makes g c).After-ready_op in
    makes_no_more c.from_residual.result c.in_err-ready_op.field-0.0 c.from_residual.ensures.1
    (λ full. rest_full s p l.parts l.invariant.holds ops l.op-index c.op-item.result (low g place) (here g place) l.readying
    (subscribe_ops (rows_now p.graph) s.serial ops (told_then s p c.args.readying.now)) (made.full full) l.invariant.ops)
    made.can (holds_on p l.parts c.ready_op.new.parts l.invariant.holds made.holds)

pub loop-op-preserved : goal.loop-op-preserved
loop-op-preserved g c =
    let s = c.args.scene.now in
    let p = c.args.parts.now in
    let ops = c.args.ops.now in
    let l = c.loop-op in
    let op = c.op-item.result in
    let place = (goal.at.loop-op-preserved g c).After-ready_op in
    record {
      can = c.ready_op.ensures.makes.can;
      holds = holds_on p l.parts c.ready_op.new.parts l.invariant.holds c.ready_op.ensures.makes.holds;
      ops = rest_made s p l.parts l.invariant.holds ops l.op-index op (low g place) (here g place) l.readying
          (subscribe_ops (rows_now p.graph) s.serial ops (told_then s p c.args.readying.now)) c.ready_op.new.readying
          c.in_ok-ready_op.ensures.makes.made l.invariant.ops;
      steps = one_more (rows_now l.parts.graph) (rows_now p.graph) l.invariant.holds.rows ops l.op-index op (low g place) (here g place)
          c.args.steps.now l.steps c.ready_op.new.steps l.invariant.steps c.ready_op.ensures.steps;
    }

pub returns-in_err-ready_op-clause-steps : goal.returns-in_err-ready_op-clause-steps
returns-in_err-ready_op-clause-steps g c =
    let p = c.args.parts.now in
    let ops = c.args.ops.now in
    let l = c.loop-op in
    let op = c.op-item.result in
    let place = (goal.at.returns-in_err-ready_op-clause-steps g c).After-ready_op in
    one_stops (rows_now l.parts.graph) (rows_now p.graph) l.invariant.holds.rows ops l.op-index op (low g place) (here g place)
    c.args.steps.now l.steps c.ready_op.new.steps l.invariant.steps c.ready_op.ensures.steps

pub returns-clause-steps : goal.returns-clause-steps
returns-clause-steps g c =
    let l = c.loop-op in
    l.invariant.steps l.steps (no_ops (rows_now c.args.parts.now.graph) (drop l.op-index c.args.ops.now) l.steps)
