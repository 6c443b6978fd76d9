use Rattle.std.proofs.Common.{◌∙◌, ◌∷◌, ◌++◌, [], ap, subst, List, arith, length, reverse}
use Rattle.std.specs.Prelude.{Err}
use Rattle.std.proofs.lemmas.Result.{err_from_is_err_and}
use Rattle.ifmap_reader.specs.declared.open_elements.OpenElement.{OpenElement}
use Rattle.ifmap_reader.specs.OpenElements.{CountsBindings, scope_of}
use Rattle.ifmap_reader.specs.AllowedTags.{OpensElement, TagAnswer}
use Rattle.ifmap_reader.proofs.Leading.{start_leads_in_code, start_too_deep, start_refused}
use Rattle.ifmap_reader.proofs.progress.take_start.Goals as goal

pub returns-in_err-inner : goal.returns-in_err-inner
returns-in_err-inner c =
    let p = err_from_is_err_and c.from_residual.result c.from_residual.ensures.1 in
    rw (p.1, p.2) (start_refused c.args.depth (reverse c.args.open_elements) c.args.tag c.in_err-inner.field-0.0
    (subst (λ (fs : List OpenElement). TagAnswer (reverse fs) c.args.tag (Err c.in_err-inner.field-0.0))
    (c.deref.ensures.value ∙ c.open_elements.view_is) c.in_err-inner.ensures))

pub returns-then-len-depth : goal.returns-then-len-depth
returns-then-len-depth c =
    start_too_deep c.args.depth c.args.open_elements c.args.tag c.in_ok-inner.inner
    (subst (λ (fs : List OpenElement). OpensElement (scope_of (reverse fs)) c.args.tag c.in_ok-inner.inner)
    (c.deref.ensures.value ∙ c.open_elements.view_is) c.in_ok-inner.ensures.0)
    (omega (arith, c.len.ensures, c.open_elements.inside.0.ok.0, ap length c.open_elements.view_is, c.if-len-depth.true))

pub returns : goal.returns
returns c =
    start_leads_in_code c.args.depth c.args.open_elements c.push.new.self.items c.args.tag c.in_ok-inner.inner
    (subst (λ (fs : List OpenElement). OpensElement (scope_of (reverse fs)) c.args.tag c.in_ok-inner.inner)
    (c.deref.ensures.value ∙ c.open_elements.view_is) c.in_ok-inner.ensures.0)
    (subst (λ (fs : List OpenElement). CountsBindings c.in_ok-inner.inner.bindings c.in_ok-inner.inner.declaring (reverse fs))
    (c.deref.ensures.value ∙ c.open_elements.view_is) c.in_ok-inner.ensures.1)
    (omega (arith, c.len.ensures, c.open_elements.inside.0.ok.0, ap length c.open_elements.view_is, c.if-len-depth.false))
    (c.in_ok-push.ensures.items ∙ ap (λ (fs : List OpenElement). fs ++ c.in_ok-inner.inner ∷ []) c.open_elements.view_is)
