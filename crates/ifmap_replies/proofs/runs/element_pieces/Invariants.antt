use Rattle.std.proofs.Common.{◌≡◌, ◌∷◌, map, take}
use Rattle.ifmap_elem.specs.Outlines.{outline_child}
use Rattle.ifmap_elem.specs.Building.{as_children}
use Rattle.ifmap_replies.specs.Runs.{entry_elements}
use Rattle.ifmap_replies.proofs.runs.element_pieces.Given as goal

-- the elements so far
abbrev pub invariant-loop-entry : goal.invariant-loop-entry
invariant-loop-entry l =
    map outline_child l.pieces.items ≡ as_children (l.fn.first.element ∷ entry_elements (take l.entry-index l.fn.others))
