use Rattle.std.proofs.Common.{◌≡◌, ◌++◌, map}
use Rattle.ifmap_delta.specs.Touched.{with_no_place}
use Rattle.ifmap_delta.proofs.pairing.items_without_places.Given as goal

-- what was made so far, before what is left to be made, is all
abbrev pub invariant-loop-item : goal.invariant-loop-item
invariant-loop-item l = l.touched.items ++ map with_no_place l.item-iterator.rest.items ≡ map with_no_place l.fn.items.items
