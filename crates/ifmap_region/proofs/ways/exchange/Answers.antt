use Rattle.std.proofs.Common.{arith}
use Rattle.ifmap_region.proofs.Exchange.{room_now, rows_next, patch_next, makes_all, taken_all}
use Rattle.ifmap_region.proofs.ways.exchange.Goals as goal

pub exchange_at-requires : goal.exchange_at-requires
exchange_at-requires c =
    room_now c.args.rows.now.entries c.args.patch.now.entries c.loop-i.rows.entries c.loop-i.patch.entries c.loop-i.i
    c.len-i-end.ensures.unique c.loop-i.invariant.rows c.loop-i.invariant.patch c.requires

pub loop-i-preserved : goal.loop-i-preserved
loop-i-preserved c = record {
  rows = rows_next c.args.rows.now.entries c.args.patch.now.entries c.loop-i.rows.entries c.loop-i.patch.entries c.loop-i.i
      c.len-i-end.ensures.unique c.loop-i.invariant.rows c.loop-i.invariant.patch
      c.exchange_at.new.rows.entries c.exchange_at.new.patch.entries (omega (arith, c.loop-i-test.true, c.len-i-end.ensures.len))
      c.exchange_at.ensures;
  patch = patch_next c.args.rows.now.entries c.args.patch.now.entries c.loop-i.rows.entries c.loop-i.patch.entries c.loop-i.i
      c.len-i-end.ensures.unique c.loop-i.invariant.rows c.loop-i.invariant.patch
      c.exchange_at.new.rows.entries c.exchange_at.new.patch.entries (omega (arith, c.loop-i-test.true, c.len-i-end.ensures.len))
      c.exchange_at.ensures;
}

pub returns-clause-makes : goal.returns-clause-makes
returns-clause-makes c =
    makes_all c.args.rows.now.entries c.args.patch.now.entries c.loop-i.rows.entries c.loop-i.patch.entries c.loop-i.i
    c.len-i-end.ensures.unique c.loop-i.invariant.rows c.loop-i.invariant.patch c.requires
    (omega (arith, c.loop-i-test.false, c.len-i-end.ensures.len))

pub returns-clause-taken : goal.returns-clause-taken
returns-clause-taken c =
    taken_all c.args.rows.now.entries c.args.patch.now.entries c.loop-i.rows.entries c.loop-i.patch.entries c.loop-i.i
    c.len-i-end.ensures.unique c.loop-i.invariant.rows c.loop-i.invariant.patch
    (omega (arith, c.loop-i-test.false, c.len-i-end.ensures.len))
