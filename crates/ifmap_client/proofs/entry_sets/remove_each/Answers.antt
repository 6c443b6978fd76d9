use Rattle.std.proofs.Common.{arith}
use Rattle.ifmap_client.proofs.Placing.{remove_next, removed_all, without_rises}
use Rattle.ifmap_client.proofs.entry_sets.remove_each.Goals as goal

pub loop-entry-preserved : goal.loop-entry-preserved
loop-entry-preserved c = record {
  rising = rw c.remove_entry.ensures (without_rises _ c.loop-entry.set.items c.loop-entry.invariant.rising);
  rest = rw c.remove_entry.ensures
      (remove_next c.args.removed.now c.loop-entry.entry-index c.entry-item.result c.loop-entry.set.items _ c.loop-entry-test.true
      c.entry-item.is c.loop-entry.invariant.rest);
}

pub returns-clause-items : goal.returns-clause-items
returns-clause-items c =
    removed_all c.args.removed.now c.loop-entry.entry-index c.loop-entry.set.items _ (omega (arith, c.loop-entry-test.false))
    c.loop-entry.invariant.rest
