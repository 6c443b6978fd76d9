use Rattle.std.proofs.Common.{◌≡◌, take}
use Rattle.std.specs.List.{flat_map}
use Rattle.ifmap_filter.specs.Spaces.{predicate_spaces, with_each}
use Rattle.ifmap_filter.proofs.spaces.+adding.Given as goal

abbrev pub invariant-add_parts-loop-part : goal.invariant-add_parts-loop-part
invariant-add_parts-loop-part l =
    l.spaces.items ≡ with_each l.initial.spaces.items (flat_map predicate_spaces (take l.part-index l.parts))
