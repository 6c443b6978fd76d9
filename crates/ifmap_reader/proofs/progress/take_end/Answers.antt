use Rattle.std.proofs.Common.{◌∙◌, sym}
use Rattle.ifmap_lemmas.specs.Joined.{none_to_pop}
use Rattle.ifmap_reader.specs.Progress.{where_is}
use Rattle.ifmap_reader.proofs.Leading.{end_leads_in_code, other_end, no_end}
use Rattle.ifmap_reader.proofs.progress.take_end.Goals as goal

pub returns-in_default : goal.returns-in_default
returns-in_default c = λ depth.
    no_end c.args.open_elements c.args.name (sym c.open_elements.view_is
    ∙ none_to_pop _ c.pop.new.self.items _ c.in_default.ensures.items c.in_default.ensures.rest c.in_default.ensures.cases.0)

pub returns-then-not-is_named : goal.returns-then-not-is_named
returns-then-not-is_named c = λ depth.
    other_end c.args.open_elements c.pop.new.self.items c.in-Some.innermost c.args.name
    (sym c.open_elements.view_is ∙ c.in-Some.ensures.items)
    (λ e. let k = c.is_named.ensures.1 e in let f = c.if-not-is_named.true in cc)

pub returns : goal.returns
returns c = λ depth.
    end_leads_in_code depth c.args.open_elements c.pop.new.self.items c.in-Some.innermost c.args.name c.in_ok-element.element
    c.in_ok-element.declared (where_is c.in_ok-with_element.field-0)
    (sym c.open_elements.view_is ∙ c.in-Some.ensures.items) (c.is_named.ensures.0 c.if-not-is_named.false) c.in_ok-element.ensures
    c.in_ok-with_element.ensures
