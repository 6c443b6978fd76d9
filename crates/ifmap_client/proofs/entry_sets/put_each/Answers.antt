use Rattle.std.proofs.Common.{rules}
use Rattle.ifmap_client.proofs.Placing.{put_rises}
use Rattle.ifmap_client.proofs.entry_sets.put_each.Goals as goal

pub loop-entry-preserved : goal.loop-entry-preserved
loop-entry-preserved c = record {
  rising = rw c.put_entry.ensures.items (put_rises _ c.loop-entry.set.items c.loop-entry.invariant.rising);
  rest = search rules;
  room = search rules;
}
