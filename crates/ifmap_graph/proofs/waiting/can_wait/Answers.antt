use Rattle.std.proofs.Common.{◌-◌, ◌^◌, ◌<◌, ℕ, subst, arith}
use Rattle.ifmap_graph.specs.Out.{items_changed}
use Rattle.ifmap_graph.proofs.Accepting.{item_at}
use Rattle.ifmap_graph.proofs.Waits.{few_more}
use Rattle.ifmap_graph.proofs.waiting.can_wait.Goals as goal

pub loop-change-preserved : goal.loop-change-preserved
loop-change-preserved c =
    let here = item_at c.args.changes.now c.loop-change.change-index c.change-item.result c.loop-change-test.true c.change-item.is
    in few_more c.args.shelves.now (items_changed c.args.changes.now) c.loop-change.change-index c.change-item.result.item
    here.0 here.1 c.loop-change.invariant
    (subst (λ (n : ℕ). n < 2 ^ 64 - 1) c.waits_for.ensures (omega (arith, c.if-waits_for.false, c.waits_for.type_inv)))
