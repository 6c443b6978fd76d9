use Rattle.std.proofs.Common.{◌≡◌, take}
use Rattle.ifmap_filter.proofs.filters.+copying.Given as goal

abbrev pub invariant-copy_parts-loop-part : goal.invariant-copy_parts-loop-part
invariant-copy_parts-loop-part l = l.made.items ≡ take l.part-index l.parts
