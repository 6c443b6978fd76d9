use Rattle.std.proofs.Common.{subst, sym}
use Rattle.ifmap_elem.specs.Outlines.{label_name}
use Rattle.ifmap_elem.specs.declared.printing.RootContent.{RootContent}
use Rattle.ifmap_elem.specs.printer.Contents.{children_in}
use Rattle.ifmap_elem.specs.printer.Pieces.{AddsContent}
use Rattle.ifmap_elem.proofs.printing.write_inside.Goals as goal

pub returns-in_ok-write_content-in-Element : goal.returns-in_ok-write_content-in-Element
returns-in_ok-write_content-in-Element c = λ named.
    subst (λ (k : RootContent). AddsContent (label_name c.args.label) (children_in k) c.args.prefixes.now c.write_content.new.prefixes
    c.args.out.now.items c.write_content.new.out.items) (sym c.in-Element.is) (c.in_ok-write_content-in-Element.ensures named)

pub returns-in_ok-write_pieces-in-Outline : goal.returns-in_ok-write_pieces-in-Outline
returns-in_ok-write_pieces-in-Outline c = λ named.
    subst (λ (k : RootContent). AddsContent (label_name c.args.label) (children_in k) c.args.prefixes.now c.write_pieces.new.prefixes
    c.args.out.now.items c.write_pieces.new.out.items) (sym c.in-Outline.is) (c.in_ok-write_pieces-in-Outline.ensures named)
