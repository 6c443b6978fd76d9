use Rattle.std.proofs.Common.{◌≡◌, take}
use Rattle.std.specs.List.{flat_map}
use Rattle.ifmap_filter.specs.Spaces.{test_spaces, with_each}
use Rattle.ifmap_filter.proofs.spaces.add_tests.Given as goal

abbrev pub invariant-loop-test : goal.invariant-loop-test
invariant-loop-test l = l.spaces.items ≡ with_each l.initial.spaces.items (flat_map test_spaces (take l.test-index l.tests))
