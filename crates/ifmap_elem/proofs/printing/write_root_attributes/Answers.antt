use Rattle.std.proofs.Common.{subst, sym}
use Rattle.ifmap_elem.specs.Arranged.{sort_attributes}
use Rattle.ifmap_elem.specs.declared.printing.RootContent.{RootContent}
use Rattle.ifmap_elem.specs.printer.Contents.{attributes_in}
use Rattle.ifmap_elem.specs.printer.Pieces.{AddsAttributes}
use Rattle.ifmap_elem.proofs.printing.write_root_attributes.Goals as goal

pub returns-in_ok-write_attributes-in-Element : goal.returns-in_ok-write_attributes-in-Element
returns-in_ok-write_attributes-in-Element c =
    subst (λ (k : RootContent). AddsAttributes (sort_attributes (attributes_in k)) c.args.prefixes.now c.write_attributes.new.prefixes
    c.args.out.now.items c.write_attributes.new.out.items) (sym c.in-Element.is) c.in_ok-write_attributes-in-Element.ensures

pub returns-in_ok-write_outline_attributes-in-Outline : goal.returns-in_ok-write_outline_attributes-in-Outline
returns-in_ok-write_outline_attributes-in-Outline c =
    subst (λ (k : RootContent). AddsAttributes (sort_attributes (attributes_in k)) c.args.prefixes.now
    c.write_outline_attributes.new.prefixes c.args.out.now.items c.write_outline_attributes.new.out.items) (sym c.in-Outline.is)
    c.in_ok-write_outline_attributes-in-Outline.ensures
