use Rattle.std.proofs.Common.{[], arith}
use Rattle.ifmap_graph.proofs.Returning.{all_returned, place_within, begins_returning, returns_on}
use Rattle.ifmap_graph.proofs.ways.restore_all.Goals as goal

pub loop-i-init : goal.loop-i-init
loop-i-init g c = begins_returning c.args.ways.now.items c.args.lists.now.items c.requires

pub restore_at-requires-clause-place : goal.restore_at-requires-clause-place
restore_at-requires-clause-place g c = omega (arith, c.loop-i-test.true, c.loop-i.invariant.long)

pub restore_at-requires-clause-within : goal.restore_at-requires-clause-within
restore_at-requires-clause-within g c = λ w.
    place_within c.args.ways.now.items c.args.lists.now.items c.loop-i.ways.items c.loop-i.lists.items c.loop-i.i
    (omega (arith, c.loop-i-test.true, c.loop-i.invariant.long)) c.loop-i.invariant w

pub loop-i-preserved : goal.loop-i-preserved
loop-i-preserved g c =
    returns_on c.args.ways.now.items c.args.lists.now.items c.loop-i.ways.items c.loop-i.lists.items c.loop-i.i
    (omega (arith, c.loop-i-test.true, c.loop-i.invariant.long)) c.loop-i.invariant
    (0, []) c.restore_at.new.ways.items c.restore_at.new.lists.items
    (c.restore_at.ensures.lists (0, [])) (c.restore_at.ensures.ways (0, []))

pub returns : goal.returns
returns g c =
    all_returned c.args.ways.now.items c.args.lists.now.items c.loop-i.ways.items c.loop-i.lists.items c.loop-i.i
    (omega (arith, c.loop-i-test.false, c.loop-i.invariant.long)) c.loop-i.invariant
