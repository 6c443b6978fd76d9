use Rattle.std.proofs.Common.{◌≡◌, ◌++◌, refl, ap, ◌∙◌}
use Rattle.ifmap_lemmas.specs.Drained.{drained_items}
use Rattle.std.specs.Prelude.{codes}
use Rattle.std.specs.List.{flat_map}
use Rattle.ifmap_elem.specs.Canonical.{after_prefix, declaration_bytes}
use Rattle.ifmap_elem.specs.Namespaces.{numbered_prefixes}
use Rattle.ifmap_elem.proofs.KeyLaws.{bytes_of}
use Rattle.ifmap_elem.proofs.PieceLaws.{final_before, front_both, prefix_final, piece_root}
use Rattle.ifmap_elem.specs.Outlines.{label_name}
use Rattle.ifmap_elem.specs.printer.Contents.{root_of}
use Rattle.ifmap_elem.specs.printer.Pieces.{AreFinal}
use Rattle.ifmap_elem.proofs.printing.print_root.Goals as goal

pub returns : goal.returns
returns c =
    let put = c.in_ok-splice.ensures.items in
    let head = c.write_declarations-2.new.out.items in
    let front : put.1 ≡ head = drained_items put.0 put.1 head put.3 put.2.0 (put.2.1 ∙ c.write_declarations-2.new.out.ok.0) in
    let named =
    prefix_final c.number_label.new.self (label_name c.args.label).space c.in_ok-prefix.prefix c.in_ok-prefix.ensures.numbered
    c.in_ok-prefix.ensures.prefix in
    let content =
    c.in_ok-write_inside.ensures (λ final f. named final (final_before c.number_label.new.self c.write_root_attributes.new.prefixes final
    c.in_ok-write_root_attributes.ensures.extends f)) in
    let whole : AreFinal c.number_label.new.self c.write_inside.new.prefixes =
    record {
      begins = front_both c.number_label.new.self c.write_root_attributes.new.prefixes c.write_inside.new.prefixes
          c.in_ok-write_root_attributes.ensures.extends content.extends;
      none_bare = c.spaces.ensures.none_bare;
    } in
    piece_root (root_of (label_name c.args.label) c.args.content) c.args.spaces.now c.in_ok-prefixes.prefixes c.number_label.new.self
    c.write_root_attributes.new.prefixes
    c.write_inside.new.prefixes (bytes_of c.spaces.result.now) c.in_ok-prefix.prefix
    c.new-inside.result.items c.write_root_attributes.new.out.items c.write_inside.new.out.items c.write_inside.new.out.items
    c.new-head.result.items c.extend_from_slice.new.self.items c.write_name.new.out.items c.write_declarations.new.out.items head
    c.splice.new.self.items
    c.in_ok-prefixes.ensures c.in_ok-prefix.ensures.added c.new-inside.ensures.items c.in_ok-write_root_attributes.ensures content
    c.spaces.ensures.none_bare (named c.write_inside.new.prefixes whole) c.spaces.ensures.all refl c.new-head.ensures.items
    c.in_ok-extend_from_slice.ensures.items
    (c.in_ok-write_name.ensures ∙ ap (λ l. c.extend_from_slice.new.self.items ++ after_prefix c.in_ok-prefix.prefix l) c.local_part.ensures)
    c.in_ok-write_declarations.ensures (c.in_ok-write_declarations-2.ensures
    ∙ ap (λ l. c.write_declarations.new.out.items ++ flat_map declaration_bytes (numbered_prefixes (codes "f") 1 l))
    (ap bytes_of c.deref.ensures.value ∙ c.in_ok-given.ensures))
    (put.4 ∙ ap (λ l. l ++ c.write_inside.new.out.items) front)
