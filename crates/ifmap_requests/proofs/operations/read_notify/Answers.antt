use Rattle.std.proofs.Common.{◌∙◌, List, Ok, false, refl, subst, sym, true}
use Rattle.ifmap_elem.specs.declared.elements.Child.{Child}
use Rattle.ifmap_ident.specs.declared.codes.Code.TheVariants.{Failure}
use Rattle.ifmap_forms.specs.declared.errors.FormError.TheVariants.{Named}
use Rattle.ifmap_forms.specs.AnswerLaws.{made_as_read, read_refused_at_content, read_refused_at_others}
use Rattle.ifmap_forms.specs.AnswerLaws.{read_whole, refused_as_read, refused_exit}
use Rattle.ifmap_forms.specs.Answers.{IsCheckRefusal}
use Rattle.ifmap_forms.specs.Tables.{form_check, parts_in}
use Rattle.ifmap_requests.specs.Published.{published_check, published_parts}
use Rattle.ifmap_requests.specs.RequestForms.{notify_form, notify_of}
use Rattle.ifmap_requests.proofs.operations.read_notify.Goals as goal

pub returns-then-not-has_only : goal.returns-then-not-has_only
returns-then-not-has_only c = λ scopes.
    let e = c.args.element in
    refused_as_read notify_form notify_of scopes e (Named Failure)
    (read_refused_at_others notify_form scopes e tt refl (sym c.has_only.ensures ∙ c.if-not-has_only.true))

pub returns-in_err-published : goal.returns-in_err-published
returns-in_err-published c = λ scopes.
    let e = c.args.element in
    let error = c.in_err-published.field-0.0 in
    refused_exit (form_check notify_form notify_of scopes e) c.from_residual.result error c.from_residual.ensures.1
    (refused_as_read notify_form notify_of scopes e error
    (read_refused_at_content notify_form scopes e tt refl error (sym c.has_only.ensures ∙ c.if-not-has_only.false)
    (subst (λ (cs : List Child). IsCheckRefusal (published_check (parts_in cs)) error) c.children.view_is c.in_err-published.ensures)))

pub returns : goal.returns
returns c = λ scopes.
    let e = c.args.element in
    made_as_read notify_form notify_of scopes e tt (published_parts c.in_ok-published.published)
    (read_whole notify_form scopes e tt refl (published_parts c.in_ok-published.published)
    (sym c.has_only.ensures ∙ c.if-not-has_only.false)
    (subst (λ (cs : List Child). published_check (parts_in cs)
    (Ok (published_parts c.in_ok-published.published))) c.children.view_is c.in_ok-published.ensures))
