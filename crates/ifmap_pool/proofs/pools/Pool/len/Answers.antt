use Rattle.std.proofs.Common.{◌∙◌, sym}
use Rattle.ifmap_pool.proofs.Live.{len-live_keys}
use Rattle.ifmap_pool.proofs.pools.Pool.len.Goals as goal

pub returns : goal.returns
returns g c = rw (← c.self.view_is) (c.len.ensures ∙ sym c.self.invariant.0.counted ∙ sym (len-live_keys c.self.inside.slots.items))
