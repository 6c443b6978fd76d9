use Rattle.std.specs.Vec.Iter.{into_iter_items}
use Rattle.ifmap_tellings.proofs.Queuing.{PushesOn}
use Rattle.ifmap_tellings.proofs.tellings.push_all.Given as goal

abbrev pub invariant-loop-item : goal.invariant-loop-item
invariant-loop-item l = PushesOn l.serial l.fn.items l.fn.sessions l.sessions (into_iter_items l.item-iterator)
