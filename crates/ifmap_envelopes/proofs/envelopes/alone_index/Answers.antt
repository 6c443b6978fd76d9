use Rattle.std.proofs.Common.{◌∙◌, ap, sym}
use Rattle.ifmap_forms.specs.Tables.{parts_in}
use Rattle.ifmap_elem.specs.Fit.{is_element}
use Rattle.ifmap_envelopes.specs.Envelopes.{is_last_part}
use Rattle.ifmap_envelopes.proofs.EnvelopeLaws.{alone_there, none_alone, parts_from}
use Rattle.ifmap_envelopes.proofs.envelopes.alone_index.Goals as goal

pub returns-then-is_last_element-clause-found : goal.returns-then-is_last_element-clause-found
returns-then-is_last_element-clause-found c =
    let children = c.args.children.now in
    let index = c.blank_front-index.result in
    alone_there (parts_in children) index c.blank_front-index.ensures.front
    (ap (is_last_part is_element) (sym (parts_from children c.children_from.result.now index c.children_from.ensures))
    ∙ (sym c.is_last_element.ensures ∙ c.if-is_last_element.true))

pub returns-else-is_last_element-clause-none : goal.returns-else-is_last_element-clause-none
returns-else-is_last_element-clause-none c = λ none j e.
    let children = c.args.children.now in
    let index = c.blank_front-index.result in
    none_alone (parts_in children) index c.blank_front-index.ensures.front
    (ap (is_last_part is_element) (sym (parts_from children c.children_from.result.now index c.children_from.ensures))
    ∙ (sym c.is_last_element.ensures ∙ c.if-is_last_element.false)) j e
