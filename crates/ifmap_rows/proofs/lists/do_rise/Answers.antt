use Rattle.std.proofs.Common.{arith}
use Rattle.ifmap_lemmas.specs.Rising.{climbs}
use Rattle.ifmap_plans.specs.laws.KeyLaws.{stored_total}
use Rattle.ifmap_plans.specs.ifmap_view.Attachments.{stored_order}
use Rattle.ifmap_rows.proofs.lists.do_rise.Goals as goal

pub returns : goal.returns
returns c t =
    climbs stored_order stored_total c.args.rows.now
    (λ k d l. c.loop-i.invariant.less k d (omega (arith, l, c.loop-i-test.false, c.loop-i.invariant.end)) l)
