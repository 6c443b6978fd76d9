use Rattle.ifmap_plans.specs.laws.ListLaws.{rising_put}
use Rattle.ifmap_rows.proofs.Stepping.{put_next}
use Rattle.ifmap_rows.proofs.lists.put_each.Goals as goal

pub loop-row-preserved : goal.loop-row-preserved
loop-row-preserved c = record {
  rising = rw c.in_ok-put_row.ensures (rising_put c.in_ok-share.field-0 c.loop-row.rows.items c.loop-row.invariant.rising);
  rest = rw (c.in_ok-put_row.ensures, c.in_ok-share.ensures)
      (put_next c.args.added.now c.loop-row.row-index c.row-item.result c.loop-row.rows.items _ c.loop-row-test.true c.row-item.is
      c.loop-row.invariant.rest);
}
