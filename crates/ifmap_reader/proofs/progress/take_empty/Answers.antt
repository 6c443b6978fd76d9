use Rattle.std.proofs.Common.{◌∙◌, ap, subst, List, arith, length, reverse}
use Rattle.std.specs.Prelude.{Err}
use Rattle.std.proofs.lemmas.Result.{err_from_is_err_and}
use Rattle.ifmap_reader.specs.declared.open_elements.OpenElement.{OpenElement}
use Rattle.ifmap_reader.specs.OpenElements.{scope_of}
use Rattle.ifmap_reader.specs.AllowedTags.{OpensElement, TagAnswer}
use Rattle.ifmap_reader.proofs.Leading.{empty_leads_in_code, empty_too_deep, empty_refused}
use Rattle.ifmap_reader.specs.Progress.{where_is, after_element}
use Rattle.ifmap_reader.proofs.progress.take_empty.Goals as goal

pub returns-in_err-inner : goal.returns-in_err-inner
returns-in_err-inner c =
    let p = err_from_is_err_and c.from_residual.result c.from_residual.ensures.1 in
    rw (p.1, p.2) (empty_refused c.args.depth (reverse c.args.open_elements) c.args.tag c.in_err-inner.field-0.0
    (subst (λ (fs : List OpenElement). TagAnswer (reverse fs) c.args.tag (Err c.in_err-inner.field-0.0))
    (c.deref.ensures.value ∙ c.open_elements.view_is) c.in_err-inner.ensures))

pub returns-then-len-depth : goal.returns-then-len-depth
returns-then-len-depth c =
    empty_too_deep c.args.depth c.args.open_elements c.args.tag c.in_ok-inner.inner
    (subst (λ (fs : List OpenElement). OpensElement (scope_of (reverse fs)) c.args.tag c.in_ok-inner.inner)
    (c.deref.ensures.value ∙ c.open_elements.view_is) c.in_ok-inner.ensures.0)
    (omega (arith, c.len.ensures, c.open_elements.inside.0.ok.0, ap length c.open_elements.view_is, c.if-len-depth.true))

pub returns : goal.returns
returns c =
    empty_leads_in_code c.args.depth c.args.open_elements c.args.tag c.in_ok-inner.inner c.in_ok-element.element c.in_ok-element.declared
    (where_is c.in_ok-with_element.field-0)
    (subst (λ (fs : List OpenElement). OpensElement (scope_of (reverse fs)) c.args.tag c.in_ok-inner.inner)
    (c.deref.ensures.value ∙ c.open_elements.view_is) c.in_ok-inner.ensures.0)
    c.in_ok-element.ensures (omega (
      arith,
      c.len.ensures,
      c.open_elements.inside.0.ok.0,
      ap length c.open_elements.view_is,
      c.if-len-depth.false,
    ))
    (c.in_ok-with_element.ensures ∙ ap (λ (fs : List OpenElement). after_element
    (reverse fs) c.in_ok-element.element c.in_ok-element.declared) c.open_elements.view_is)
