use Rattle.std.proofs.Common.{◌≡◌, true, take}
use Rattle.std.specs.List.{list_all}
use Rattle.ifmap_filter.specs.Spaces.{has_each, predicate_spaces}
use Rattle.ifmap_filter.proofs.spaces.+having.Given as goal

abbrev pub invariant-has_parts-loop-part : goal.invariant-has_parts-loop-part
invariant-has_parts-loop-part l = list_all (λ p. has_each l.spaces (predicate_spaces p)) (take l.part-index l.parts) ≡ true
