use Rattle.std.proofs.Common.{◌≡◌, map, take}
use Rattle.ifmap_elem.specs.Outlines.{outline_child}
use Rattle.ifmap_elem.specs.Building.{as_children}
use Rattle.ifmap_replies.specs.Results.{poll_element}
use Rattle.ifmap_replies.proofs.results.poll_pieces.Given as goal

abbrev pub invariant-loop-item : goal.invariant-loop-item
invariant-loop-item l = map outline_child l.pieces.items ≡ as_children (map poll_element (take l.item-index l.items))
