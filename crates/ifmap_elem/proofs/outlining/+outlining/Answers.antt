use Rattle.std.proofs.Common.{◌++◌, ◌∙◌, ap, List, length, map, get_or, arith}
use Rattle.std.proofs.lemmas.List.{nil_from_length}
use Rattle.ifmap_elem.specs.Outlines.{label_name, outline_child, outline_element}
use Rattle.ifmap_elem.specs.Canonical.{after_prefix}
use Rattle.ifmap_elem.specs.Escapes.{text_bytes}
use Rattle.ifmap_elem.specs.declared.outlines.Piece.{Piece}
use Rattle.ifmap_elem.specs.laws.OutlineLaws.{outlined_inside, outlined_is, outlined_shared, outlined_text}
use Rattle.ifmap_elem.proofs.OutlinePieces.{adds_element_as, all_outlined, bytes_in, some_outlined, spaces_in}
use Rattle.ifmap_elem.proofs.PieceLaws.{final_before, pieces_next, piece_child, piece_content, piece_element, piece_no_content, piece_text}
use Rattle.ifmap_elem.proofs.outlining.+outlining.Goals as goal

pub write_pieces-loop-piece-preserved : goal.write_pieces-loop-piece-preserved
write_pieces-loop-piece-preserved t c =
    pieces_next (λ p. spaces_in (outline_child p)) (λ rows p. bytes_in rows (outline_child p)) c.args.pieces.now
    c.loop-piece.piece-index c.piece-item.result
    c.args.prefixes.now c.loop-piece.prefixes c.write_piece.new.prefixes c.extend_from_slice-2.new.self.items c.loop-piece.out.items
    c.write_piece.new.out.items
    (omega (arith, c.loop-piece-test.true, ap length c.as_slice-piece-items.ensures))
    (c.piece-item.is ∙ ap (λ (l : List Piece). get_or l c.loop-piece.piece-index c.piece-item.result) c.as_slice-piece-items.ensures)
    c.loop-piece.invariant c.in_ok-write_piece.ensures

pub write_pieces-returns : goal.write_pieces-returns
write_pieces-returns t c = λ named.
    piece_content spaces_in bytes_in (map outline_child c.args.pieces.now) (label_name c.args.label) c.args.prefix.now
    c.args.prefixes.now c.loop-piece.prefixes c.args.out.now.items c.extend_from_slice-2.new.self.items c.loop-piece.out.items
    c.extend_from_slice-3.new.self.items c.write_name.new.out.items c.extend_from_slice-4.new.self.items
    (some_outlined c.args.pieces.now (λ e. let h = c.is_empty.ensures.1 (nil_from_length c.args.pieces.now e) in cc))
    c.in_ok-extend_from_slice-2.ensures.items
    (all_outlined c.args.pieces.now c.loop-piece.piece-index c.args.prefixes.now c.loop-piece.prefixes
    c.extend_from_slice-2.new.self.items c.loop-piece.out.items
    (omega (arith, c.loop-piece-test.false, ap length c.as_slice-piece-items.ensures))
    c.loop-piece.invariant)
    c.in_ok-extend_from_slice-3.ensures.items named (c.in_ok-write_name.ensures
    ∙ ap (λ l. c.extend_from_slice-3.new.self.items ++ after_prefix c.args.prefix.now l) c.local_part.ensures)
    c.in_ok-extend_from_slice-4.ensures.items

pub write_pieces-returns-then-is_empty : goal.write_pieces-returns-then-is_empty
write_pieces-returns-then-is_empty t c = λ named.
    piece_no_content spaces_in bytes_in (map outline_child c.args.pieces.now) (label_name c.args.label) c.args.prefixes.now
    c.args.out.now.items c.extend_from_slice.new.self.items (ap (map outline_child) (c.is_empty.ensures.0 c.if-is_empty.true))
    c.in_ok-extend_from_slice.ensures.items

pub write_outline-returns : goal.write_outline-returns
write_outline-returns t c =
    adds_element_as (outline_element c.args.outline.now) _ c.args.prefixes.now c.write_pieces.new.prefixes
    c.args.out.now.items c.write_pieces.new.out.items (outlined_is c.args.outline.now)
    (piece_element (record {
      name = label_name c.args.outline.now.label;
      attributes = c.args.outline.now.attributes;
      children = map outline_child c.args.outline.now.pieces;
    }) c.args.prefixes.now c.write_label.new.prefixes c.write_outline_attributes.new.prefixes
    c.write_pieces.new.prefixes
    c.args.out.now.items c.extend_from_slice.new.self.items c.write_label.new.out.items c.write_outline_attributes.new.out.items
    c.write_pieces.new.out.items
    c.in_ok-extend_from_slice.ensures.items c.in_ok-prefix.ensures.added c.in_ok-write_outline_attributes.ensures
    (c.in_ok-write_pieces.ensures
    (λ final f. c.in_ok-prefix.ensures.prefix final
    (final_before c.write_label.new.prefixes c.write_outline_attributes.new.prefixes final c.in_ok-write_outline_attributes.ensures.extends
    f))))

pub write_piece-returns-in_ok-write_escaped-in-Text : goal.write_piece-returns-in_ok-write_escaped-in-Text
write_piece-returns-in_ok-write_escaped-in-Text t c =
    piece_text c.in-Text.text.now (outline_child c.args.piece.now) c.args.prefixes.now c.args.out.now.items c.write_escaped.new.out.items
    (ap outline_child c.in-Text.is ∙ outlined_text c.in-Text.text)
    (c.in_ok-write_escaped-in-Text.ensures ∙ ap (λ l. c.args.out.now.items ++ text_bytes l) c.as_bytes.ensures)

pub write_piece-returns-in_ok-write_element-in-Shared : goal.write_piece-returns-in_ok-write_element-in-Shared
write_piece-returns-in_ok-write_element-in-Shared t c =
    piece_child c.in-Shared.element.now (outline_child c.args.piece.now) c.args.prefixes.now c.write_element.new.prefixes
    c.args.out.now.items c.write_element.new.out.items (ap outline_child c.in-Shared.is ∙ outlined_shared c.in-Shared.element)
    c.in_ok-write_element-in-Shared.ensures

pub write_piece-returns-in_ok-write_outline-in-Outline : goal.write_piece-returns-in_ok-write_outline-in-Outline
write_piece-returns-in_ok-write_outline-in-Outline t c =
    piece_child (outline_element c.in-Outline.outline) (outline_child c.args.piece.now) c.args.prefixes.now
    c.write_outline.new.prefixes c.args.out.now.items c.write_outline.new.out.items
    (ap outline_child c.in-Outline.is ∙ outlined_inside c.in-Outline.outline) c.in_ok-write_outline-in-Outline.ensures
