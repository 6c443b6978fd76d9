use Rattle.std.proofs.Common.{[], ◌∙◌, List, Ok, false, subst, sym, true}
use Rattle.ifmap_elem.specs.declared.elements.Child.{Child}
use Rattle.ifmap_ident.specs.declared.codes.Code.TheVariants.{Failure}
use Rattle.ifmap_forms.specs.declared.errors.FormError.TheVariants.{Named}
use Rattle.ifmap_forms.specs.AnswerLaws.{found_alone, made_as_read, read_refused_at_attributes, read_refused_at_content}
use Rattle.ifmap_forms.specs.AnswerLaws.{read_refused_at_others, read_whole, refused_alone, refused_as_read, refused_exit}
use Rattle.ifmap_forms.specs.Answers.{IsCheckRefusal}
use Rattle.ifmap_forms.specs.Tables.{both, form_check, parts_in}
use Rattle.ifmap_forms.specs.Values.{lifetime_field}
use Rattle.ifmap_requests.specs.Published.{published_check, published_parts}
use Rattle.ifmap_requests.specs.RequestForms.{update_form, update_from_form}
use Rattle.ifmap_requests.proofs.operations.read_update.Goals as goal

pub returns-in_err-forever : goal.returns-in_err-forever
returns-in_err-forever c = λ scopes.
    let e = c.args.element in
    let error = c.in_err-forever.field-0.0 in
    refused_exit (form_check update_form update_from_form scopes e) c.from_residual.result error c.from_residual.ensures.1
    (refused_as_read update_form update_from_form scopes e error
    (read_refused_at_attributes update_form scopes e error
    (refused_alone lifetime_field (scopes []) e error c.in_err-forever.ensures.answer)))

pub returns-then-not-has_only : goal.returns-then-not-has_only
returns-then-not-has_only c = λ scopes.
    let e = c.args.element in
    refused_as_read update_form update_from_form scopes e (Named Failure)
    (read_refused_at_others update_form scopes e (both c.in_ok-forever.forever tt)
    (found_alone lifetime_field (scopes []) e c.in_ok-forever.forever c.in_ok-forever.ensures.answer)
    (sym c.has_only.ensures ∙ c.if-not-has_only.true))

pub returns-in_err-published : goal.returns-in_err-published
returns-in_err-published c = λ scopes.
    let e = c.args.element in
    let error = c.in_err-published.field-0.0 in
    refused_exit (form_check update_form update_from_form scopes e) c.from_residual-in_err-published.result error
    c.from_residual-in_err-published.ensures.1
    (refused_as_read update_form update_from_form scopes e error
    (read_refused_at_content update_form scopes e (both c.in_ok-forever.forever tt)
    (found_alone lifetime_field (scopes []) e c.in_ok-forever.forever c.in_ok-forever.ensures.answer) error
    (sym c.has_only.ensures ∙ c.if-not-has_only.false)
    (subst (λ (cs : List Child). IsCheckRefusal (published_check (parts_in cs)) error) c.children.view_is c.in_err-published.ensures)))

pub returns : goal.returns
returns c = λ scopes.
    let e = c.args.element in
    made_as_read update_form update_from_form scopes e (both c.in_ok-forever.forever tt) (published_parts c.in_ok-published.published)
    (read_whole update_form scopes e (both c.in_ok-forever.forever tt)
    (found_alone lifetime_field (scopes []) e c.in_ok-forever.forever c.in_ok-forever.ensures.answer)
    (published_parts c.in_ok-published.published) (sym c.has_only.ensures ∙ c.if-not-has_only.false)
    (subst (λ (cs : List Child). published_check (parts_in cs)
    (Ok (published_parts c.in_ok-published.published))) c.children.view_is c.in_ok-published.ensures))
