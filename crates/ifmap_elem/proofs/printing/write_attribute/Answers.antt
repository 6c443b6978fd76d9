use Rattle.std.proofs.Common.{◌++◌, ap, ◌∙◌}
use Rattle.ifmap_elem.specs.Escapes.{value_bytes}
use Rattle.ifmap_elem.proofs.PieceLaws.{piece_attribute}
use Rattle.ifmap_elem.proofs.printing.write_attribute.Goals as goal

pub returns : goal.returns
returns c =
    piece_attribute c.args.attribute.now c.args.prefixes.now c.write_label.new.prefixes c.args.out.now.items
    c.extend_from_slice.new.self.items c.write_label.new.out.items
    c.extend_from_slice-2.new.self.items c.write_escaped.new.out.items c.extend_from_slice-3.new.self.items
    c.in_ok-extend_from_slice.ensures.items
    c.in_ok-write_label.ensures.added
    c.in_ok-extend_from_slice-2.ensures.items (c.in_ok-write_escaped.ensures
    ∙ ap (λ l. c.extend_from_slice-2.new.self.items ++ value_bytes l) c.as_bytes.ensures) c.in_ok-extend_from_slice-3.ensures.items
