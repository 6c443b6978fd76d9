use Rattle.std.proofs.Common.{◌++◌, ◌∙◌, ap}
use Rattle.ifmap_elem.specs.Canonical.{after_prefix}
use Rattle.ifmap_elem.specs.Outlines.{label_name}
use Rattle.ifmap_elem.proofs.PieceLaws.{piece_name, prefix_final}
use Rattle.ifmap_elem.proofs.printing.write_label.Goals as goal

pub returns-clause-added : goal.returns-clause-added
returns-clause-added c =
    piece_name c.args.prefixes.now c.number_label.new.self (label_name c.args.label) c.in_ok-prefix.prefix c.args.out.now.items
    c.write_name.new.out.items
    c.in_ok-prefix.ensures.added c.in_ok-prefix.ensures.extends c.in_ok-prefix.ensures.numbered c.in_ok-prefix.ensures.prefix
    (c.in_ok-write_name.ensures ∙ ap (λ l. c.args.out.now.items ++ after_prefix c.in_ok-prefix.prefix l) c.local_part.ensures)

pub returns-clause-prefix : goal.returns-clause-prefix
returns-clause-prefix c =
    prefix_final c.number_label.new.self (label_name c.args.label).space c.in_ok-prefix.prefix c.in_ok-prefix.ensures.numbered
    c.in_ok-prefix.ensures.prefix
