use Rattle.std.proofs.Common.{◌-◌, ◌≤◌, length}
use Rattle.ifmap_pool.specs.Index.{slot_at, AllBelow, AllAbove}
use Rattle.ifmap_pool.proofs.places.place_of.Given as goal

abbrev pub invariant-halving : goal.invariant-halving
invariant-halving g l = record {
  rises : l.low ≤ l.high;
  within : l.high ≤ length l.order;
  below : AllBelow g.K.Ord.cmp (slot_at l.slots) l.order l.key l.low;
  above : AllAbove g.K.Ord.cmp (slot_at l.slots) l.order l.key l.high;
}

abbrev pub decreases-halving : goal.decreases-halving
decreases-halving g l = l.high - l.low
