use Rattle.ifmap_rows.proofs.Stepping.{all_taken, take_next}
use Rattle.ifmap_rows.proofs.rows.Rows.take_each.Goals as goal

pub loop-row-preserved : goal.loop-row-preserved
loop-row-preserved c =
    rw c.take.ensures (take_next c.args.removed.now c.loop-row.row-index c.row-item.result c.loop-row.self _ c.loop-row-test.true
    c.row-item.is c.loop-row.invariant)

pub returns : goal.returns
returns c = all_taken c.args.removed.now c.loop-row.row-index c.loop-row.self _ c.loop-row-test.false c.loop-row.invariant
