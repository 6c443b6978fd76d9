use Rattle.std.proofs.Common.{ap, arith}
use Rattle.ifmap_pool.specs.Index.{live_keys}
use Rattle.ifmap_pool.proofs.Changes.{whole_now, whole_after}
use Rattle.ifmap_pool.proofs.pools.Pool.reserve.Goals as goal

pub returns-then-n-self-clause-whole : goal.returns-then-n-self-clause-whole
returns-then-n-self-clause-whole g c = whole_now c.self.invariant.0 c.self.view_is g.met.K.Ord.total

pub returns-then-n-len-clause-whole : goal.returns-then-n-len-clause-whole
returns-then-n-len-clause-whole g c = whole_now c.self.invariant.0 c.self.view_is g.met.K.Ord.total

pub returns-in_err-reserve-clause-whole : goal.returns-in_err-reserve-clause-whole
returns-in_err-reserve-clause-whole g c =
    whole_after c.self.invariant.0 c.self.view_is g.met.K.Ord.total _ (ap live_keys c.reserve.ensures.items) (omega arith)

pub returns-in_err-reserve-2-clause-whole : goal.returns-in_err-reserve-2-clause-whole
returns-in_err-reserve-2-clause-whole g c =
    whole_after c.self.invariant.0 c.self.view_is g.met.K.Ord.total _ (ap live_keys c.reserve.ensures.items) (omega arith)

pub returns-in_err-reserve-3-clause-whole : goal.returns-in_err-reserve-3-clause-whole
returns-in_err-reserve-3-clause-whole g c =
    whole_after c.self.invariant.0 c.self.view_is g.met.K.Ord.total _ (ap live_keys c.reserve.ensures.items) (omega arith)

pub returns-clause-whole : goal.returns-clause-whole
returns-clause-whole g c =
    whole_after c.self.invariant.0 c.self.view_is g.met.K.Ord.total _ (ap live_keys c.reserve.ensures.items)
    (omega (arith, c.if-n-self.false))
