use Rattle.std.specs.BTreeMap.{get}
use Rattle.ifmap_ident.specs.Items.{item_order}
use Rattle.ifmap_lemmas.specs.Stepping.{member_holds}
use Rattle.ifmap_requests.specs.Fit.{IsFitOp}
use Rattle.ifmap_publish.specs.Working.{working_rows}
use Rattle.ifmap_publish.proofs.Entries.{none_applied, one_more}
use Rattle.ifmap_publish.proofs.working.apply_all.Goals as goal

pub loop-op-init : goal.loop-op-init
loop-op-init g c = none_applied (g.V.View.rows c.args.view.now) c.args.author.now c.args.ops.now c.new-edits.result.entries
    c.new-edits.ensures.empty

pub apply_one-requires-clause-fit : goal.apply_one-requires-clause-fit
apply_one-requires-clause-fit g c =
    member_holds IsFitOp c.args.ops.now c.loop-op.op-index c.op-item.result c.loop-op-test.true c.op-item.is c.requires.ops

pub loop-op-preserved : goal.loop-op-preserved
loop-op-preserved g c = record {
  edits = c.in_ok-apply_one.ensures.edits;
  applied = one_more (g.V.View.rows c.args.view.now) c.args.author.now c.args.ops.now c.loop-op.op-index c.op-item.result
      c.loop-op-test.true c.op-item.is (working_rows (g.V.View.rows c.args.view.now) (get item_order c.loop-op.edits))
      (working_rows (g.V.View.rows c.args.view.now) (get item_order c.apply_one.new.edits)) c.loop-op.invariant.applied
      c.in_ok-apply_one.ensures.applied;
}
