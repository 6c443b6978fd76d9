use Rattle.std.proofs.Common.{[], arith}
use Rattle.ifmap_graph.proofs.Going.{begins, drafted_at, goes_on, is_within_lists}
use Rattle.ifmap_graph.proofs.ways.accept_all.Goals as goal

pub loop-i-init : goal.loop-i-init
loop-i-init g c = begins c.args.ways.now.items c.args.lists.now.items c.requires

pub accept_at-requires-clause-place : goal.accept_at-requires-clause-place
accept_at-requires-clause-place g c = omega (arith, c.loop-i-test.true, c.loop-i.invariant.long)

pub accept_at-requires-clause-within : goal.accept_at-requires-clause-within
accept_at-requires-clause-within g c = λ w.
    is_within_lists c.args.ways.now.items c.args.lists.now.items c.loop-i.ways.items c.loop-i.lists.items c.loop-i.i
    (omega (arith, c.loop-i-test.true, c.loop-i.invariant.long)) c.loop-i.invariant w

pub accept_at-requires-clause-drafted : goal.accept_at-requires-clause-drafted
accept_at-requires-clause-drafted g c = λ w.
    drafted_at c.args.ways.now.items c.args.lists.now.items c.loop-i.ways.items c.loop-i.lists.items c.loop-i.i
    (omega (arith, c.loop-i-test.true, c.loop-i.invariant.long)) c.loop-i.invariant w

pub loop-i-preserved : goal.loop-i-preserved
loop-i-preserved g c =
    goes_on c.args.ways.now.items c.args.lists.now.items c.loop-i.ways.items c.loop-i.lists.items c.loop-i.i
    (omega (arith, c.loop-i-test.true, c.loop-i.invariant.long)) c.loop-i.invariant (0, []) c.accept_at.new.ways.items
    c.accept_at.new.lists.items
    (c.accept_at.ensures.lists (0, [])) (c.accept_at.ensures.ways (0, []))
