use Rattle.ifmap_rows.proofs.Stepping.{put_next}
use Rattle.ifmap_rows.proofs.rows.Rows.put_each.Goals as goal

pub loop-row-preserved : goal.loop-row-preserved
loop-row-preserved c =
    rw c.in_ok-put.ensures (put_next c.args.added.now c.loop-row.row-index c.row-item.result c.loop-row.self _ c.loop-row-test.true
    c.row-item.is c.loop-row.invariant)
