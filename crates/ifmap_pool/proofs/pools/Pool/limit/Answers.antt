use Rattle.ifmap_pool.proofs.Changes.{whole_now}
use Rattle.ifmap_pool.proofs.pools.Pool.limit.Goals as goal

pub returns-clause-whole : goal.returns-clause-whole
returns-clause-whole g c = whole_now c.self.invariant.0 c.self.view_is g.met.K.Ord.total
