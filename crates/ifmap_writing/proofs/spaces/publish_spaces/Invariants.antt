use Rattle.std.proofs.Common.{[], take}
use Rattle.std.specs.List.{flat_map}
use Rattle.ifmap_elem.specs.Namespaces.{AddsSpaces}
use Rattle.ifmap_filter.specs.Spaces.{filter_spaces}
use Rattle.ifmap_writing.specs.RequestSpaces.{publish_filters}
use Rattle.ifmap_writing.proofs.spaces.publish_spaces.Given as goal

abbrev pub invariant-loop-op : goal.invariant-loop-op
invariant-loop-op l = AddsSpaces [] (flat_map filter_spaces (flat_map publish_filters (take l.op-index l.ops))) l.spaces
