use Rattle.std.proofs.Common.{take}
use Rattle.std.specs.List.{flat_map}
use Rattle.ifmap_elem.specs.Outlines.{outline_child}
use Rattle.ifmap_elem.specs.printer.Pieces.{Adds}
use Rattle.ifmap_elem.proofs.OutlinePieces.{bytes_in, spaces_in}
use Rattle.ifmap_elem.proofs.outlining.+outlining.Given as goal

abbrev pub invariant-write_pieces-loop-piece : goal.invariant-write_pieces-loop-piece
invariant-write_pieces-loop-piece l =
    Adds l.initial.prefixes (flat_map (λ p. spaces_in (outline_child p)) (take l.piece-index l.pieces)) l.prefixes
    (λ rows. flat_map (λ p. bytes_in rows (outline_child p)) (take l.piece-index l.pieces)) l.initial.out.items l.out.items
