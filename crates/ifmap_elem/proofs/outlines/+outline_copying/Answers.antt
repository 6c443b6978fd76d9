use Rattle.std.proofs.Common.{map, ap, sym, ◌∙◌}
use Rattle.ifmap_elem.specs.Outlines.{outline_child}
use Rattle.ifmap_elem.specs.declared.elements.Child as the
use Rattle.ifmap_elem.specs.laws.OutlineLaws.{outlined_inside, outlined_is, outlined_shared, outlined_text}
use Rattle.ifmap_elem.proofs.outlines.+outline_copying.Goals as goal

pub copy_outline-returns : goal.copy_outline-returns
copy_outline-returns t c =
    (λ i. record {
      name = c.in_ok-name.ensures i;
      attributes = (c.in_ok-attributes.ensures ∙ c.as_slice.ensures) i;
      children = (c.in_ok-children.ensures ∙ ap (map outline_child) c.as_slice-2.ensures) i;
    }) ∙ sym (outlined_is c.args.outline.now)

pub copy_piece-returns-in_ok-copy-in-Text : goal.copy_piece-returns-in_ok-copy-in-Text
copy_piece-returns-in_ok-copy-in-Text t c =
    ap (λ x. the.Text x) c.in_ok-copy-in-Text.ensures ∙ sym (ap outline_child c.in-Text.is ∙ outlined_text c.in-Text.text)

pub copy_piece-returns-in_ok-copy-in-Shared : goal.copy_piece-returns-in_ok-copy-in-Shared
copy_piece-returns-in_ok-copy-in-Shared t c =
    ap (λ x. the.Element x) c.in_ok-copy-in-Shared.ensures
    ∙ sym (ap outline_child c.in-Shared.is ∙ outlined_shared c.in-Shared.element)

pub copy_piece-returns-in_ok-copy_outline-in-Outline : goal.copy_piece-returns-in_ok-copy_outline-in-Outline
copy_piece-returns-in_ok-copy_outline-in-Outline t c =
    ap (λ x. the.Element x) c.in_ok-copy_outline-in-Outline.ensures
    ∙ sym (ap outline_child c.in-Outline.is ∙ outlined_inside c.in-Outline.outline)
