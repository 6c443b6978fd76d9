use Rattle.std.proofs.Common.{arith}
use Rattle.ifmap_subscribes.proofs.KeptNames.{counted_kept, kept_count, passed_gone, passed_other}
use Rattle.ifmap_subscribes.proofs.names.count_standing.Goals as goal
use Rattle.ifmap_subscribes.proofs.names.count_standing.Goals.{then-standing-at+then-not-gone-at, else-standing-at, else-standing-at-via-then-standing-at+else-not-gone-at, else-standing-at-via-else-standing-at}

pub loop-at-preserved : goal.loop-at-preserved
loop-at-preserved c =
    let few = c.loop-at.invariant.few in
    let all = kept_count c.args.serial c.args.gone.now c.args.standing.now in
    elim c.if-standing-at.branch [
      | then-standing-at+then-not-gone-at w ↦
          let more = w.count-is in record {
            all = counted_kept c.args.serial c.args.gone.now c.args.standing.now c.loop-at.at c.loop-at.count c.if-standing-at.count all
                c.index-standing-at.result c.loop-at-test.true c.requires.flags c.index-standing-at.is c.loop-at.invariant.all
                w.if-standing-at.true w.if-not-gone-at.true w.count-is;
            few = omega (arith, few, more);
          }
      | else-standing-at w ↦
          let same = w.count-is in record {
            all = elim w.else-standing-at.branch [
              | else-standing-at-via-then-standing-at+else-not-gone-at v ↦
                  passed_gone c.args.serial c.args.gone.now c.args.standing.now c.loop-at.at c.loop-at.count c.if-standing-at.count all
                  c.index-standing-at.result c.loop-at-test.true c.requires.flags c.index-standing-at.is c.loop-at.invariant.all
                  v.if-not-gone-at.false w.count-is
              | else-standing-at-via-else-standing-at v ↦
                  passed_other c.args.serial c.args.gone.now c.args.standing.now c.loop-at.at c.loop-at.count c.if-standing-at.count all
                  c.index-standing-at.result c.loop-at-test.true c.requires.flags c.index-standing-at.is c.loop-at.invariant.all
                  v.if-standing-at.false w.count-is
            ];
            few = omega (arith, few, same);
          }
    ]
