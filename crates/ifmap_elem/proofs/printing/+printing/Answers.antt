use Rattle.std.proofs.Common.{◌++◌, ◌∙◌, ap, subst, List, length, get_or, arith}
use Rattle.std.proofs.lemmas.List.{nil_from_length, take_all}
use Rattle.std.specs.List.{flat_map}
use Rattle.ifmap_elem.specs.declared.elements.Child.{Child}
use Rattle.ifmap_elem.specs.Arranged.{arrange_child}
use Rattle.ifmap_elem.specs.Canonical.{after_prefix, child_bytes}
use Rattle.ifmap_elem.specs.Namespaces.{spaces_of_child}
use Rattle.ifmap_elem.specs.Outlines.{label_name}
use Rattle.ifmap_elem.specs.printer.Pieces.{Adds}
use Rattle.ifmap_elem.proofs.PieceLaws.{final_before, pieces_next, piece_content, piece_element}
use Rattle.ifmap_elem.proofs.printing.+printing.Goals as goal

pub write_content-loop-child-preserved : goal.write_content-loop-child-preserved
write_content-loop-child-preserved t c =
    pieces_next (λ x. spaces_of_child (arrange_child x)) (λ rows x. child_bytes rows
    (arrange_child x)) c.args.children.now c.loop-child.child-index c.child-item.result
    c.args.prefixes.now c.loop-child.prefixes c.write_child.new.prefixes c.extend_from_slice-2.new.self.items c.loop-child.out.items
    c.write_child.new.out.items
    (omega (arith, c.loop-child-test.true, ap length c.as_slice-child-items.ensures))
    (c.child-item.is ∙ ap (λ (l : List Child). get_or l c.loop-child.child-index c.child-item.result) c.as_slice-child-items.ensures)
    c.loop-child.invariant c.in_ok-write_child.ensures

pub write_content-returns : goal.write_content-returns
write_content-returns t c = λ named.
    piece_content (λ x. spaces_of_child (arrange_child x)) (λ rows x. child_bytes rows
    (arrange_child x)) c.args.children.now (label_name c.args.label) c.args.prefix.now
    c.args.prefixes.now c.loop-child.prefixes c.args.out.now.items c.extend_from_slice-2.new.self.items c.loop-child.out.items
    c.extend_from_slice-3.new.self.items c.write_name.new.out.items c.extend_from_slice-4.new.self.items
    (λ e. let h = c.is_empty.ensures.1 (nil_from_length c.args.children.now e) in cc)
    c.in_ok-extend_from_slice-2.ensures.items
    (subst (λ (l : List Child). Adds c.args.prefixes.now (flat_map (λ x. spaces_of_child (arrange_child x)) l) c.loop-child.prefixes
    (λ rows. flat_map (λ x. child_bytes rows (arrange_child x)) l) c.extend_from_slice-2.new.self.items c.loop-child.out.items)
    (take_all c.loop-child.child-index c.args.children.now (omega
    (arith, c.loop-child-test.false, ap length c.as_slice-child-items.ensures)))
    c.loop-child.invariant)
    c.in_ok-extend_from_slice-3.ensures.items named (c.in_ok-write_name.ensures
    ∙ ap (λ l. c.extend_from_slice-3.new.self.items ++ after_prefix c.args.prefix.now l) c.local_part.ensures)
    c.in_ok-extend_from_slice-4.ensures.items

pub write_element-returns : goal.write_element-returns
write_element-returns t c =
    piece_element c.args.element.now c.args.prefixes.now c.write_label.new.prefixes c.write_attributes.new.prefixes
    c.write_content.new.prefixes
    c.args.out.now.items c.extend_from_slice.new.self.items c.write_label.new.out.items c.write_attributes.new.out.items
    c.write_content.new.out.items
    c.in_ok-extend_from_slice.ensures.items c.in_ok-prefix.ensures.added c.in_ok-write_attributes.ensures
    (c.in_ok-write_content.ensures
    (λ final f. c.in_ok-prefix.ensures.prefix final
    (final_before c.write_label.new.prefixes c.write_attributes.new.prefixes final c.in_ok-write_attributes.ensures.extends f)))
