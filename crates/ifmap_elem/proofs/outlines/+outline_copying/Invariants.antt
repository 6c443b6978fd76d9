use Rattle.std.proofs.Common.{◌≡◌, map, take}
use Rattle.ifmap_elem.specs.Outlines.{outline_child}
use Rattle.ifmap_elem.proofs.outlines.+outline_copying.Given as goal

abbrev pub invariant-copy_pieces-loop-piece : goal.invariant-copy_pieces-loop-piece
invariant-copy_pieces-loop-piece l = l.children.items ≡ map outline_child (take l.piece-index l.pieces)
