use Rattle.std.proofs.Common.{ap, arith, length}
use Rattle.ifmap_publish.proofs.Passing.{passes_first}
use Rattle.ifmap_publish.proofs.differences.from_row.Goals as goal

pub loop-after-preserved : goal.loop-after-preserved
loop-after-preserved c =
    let p = passes_first c.args.row.now c.loop-after.rest.now c.in-Some.after.now c.args.rows.now c.loop-after.invariant.rising
    c.in-Some.ensures
    c.loop-after.invariant.same in
    record { rising = p.0; same = p.1 }

pub loop-after-smaller : goal.loop-after-smaller
loop-after-smaller c = omega (arith, ap length c.in-Some.ensures.1)
