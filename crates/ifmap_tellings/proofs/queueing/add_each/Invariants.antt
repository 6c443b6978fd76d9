use Rattle.std.proofs.Common.{◌≡◌, ◌+◌, ◌-◌, ◌^◌, ◌<◌, ◌++◌}
use Rattle.std.specs.Vec.Iter.{into_iter_items}
use Rattle.ifmap_search.specs.Sizes.{queue_size}
use Rattle.ifmap_tellings.proofs.queueing.add_each.Given as goal

-- what is there, with the items that are left, is all
abbrev pub invariant-loop-item : goal.invariant-loop-item
invariant-loop-item l = record {
  all : l.all ++ into_iter_items l.item-iterator ≡ l.fn.all ++ l.fn.items;
  size : l.size + queue_size (into_iter_items l.item-iterator) ≡ l.fn.size + queue_size l.fn.items;
  small : l.fn.size < 2 ^ 64 - 1 → l.size < 2 ^ 64 - 1;
}
