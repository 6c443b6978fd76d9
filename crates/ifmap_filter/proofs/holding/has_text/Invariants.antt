use Rattle.std.proofs.Common.{◌≡◌, drop}
use Rattle.std.specs.Str.{bytes_eq}
use Rattle.ifmap_filter.specs.Holding.{text_among}
use Rattle.ifmap_filter.proofs.holding.has_text.Given as goal

abbrev pub invariant-loop-child : goal.invariant-loop-child
invariant-loop-child l = bytes_eq (text_among l.children) l.value ≡ bytes_eq (text_among (drop l.child-index l.children)) l.left
