use Rattle.std.proofs.Common.{◌∙◌, ap, subst, sym}
use Rattle.ifmap_ident.specs.ifmap_reader.declared.scoping.Scope.{Scope}
use Rattle.ifmap_filter.specs.Texts.{WritesFilter}
use Rattle.ifmap_filter.specs.ifmap_prefixes.InScope.{scope_by}
use Rattle.ifmap_forms.proofs.values.filter_of.Goals as goal

pub returns-in-Ok : goal.returns-in-Ok
returns-in-Ok c =
    subst (λ (scope : Scope). WritesFilter c.args.text.now scope c.in-Ok.filter)
    (c.at.ensures ∙ ap (scope_by c.args.place.now.declared.now) c.deref.ensures.value ∙ c.in_ok-path.ensures.scope) c.in-Ok.ensures

pub returns-in-Err-NotAFilter : goal.returns-in-Err-NotAFilter
returns-in-Err-NotAFilter c = λ filter w.
    c.text_is_filter_or_stops.ensures.apart c.args.text.now c.at.result c.in-Err-NotAFilter.field-0-0
    (rw c.in-Err-NotAFilter.field-0-is at c.in-Err-NotAFilter.ensures) filter
    (subst (λ (scope : Scope). WritesFilter c.args.text.now scope filter)
    (sym (c.at.ensures ∙ ap (scope_by c.args.place.now.declared.now) c.deref.ensures.value ∙ c.in_ok-path.ensures.scope)) w)
