use Rattle.std.proofs.Common.{[], ◌∙◌, List, Ok, subst, sym}
use Rattle.ifmap_elem.specs.declared.elements.Child.{Child}
use Rattle.ifmap_ident.specs.declared.codes.Code.TheVariants.{Failure}
use Rattle.ifmap_forms.specs.declared.errors.FormError.TheVariants.{Named}
use Rattle.ifmap_forms.specs.AnswerLaws.{found_alone, made_as_read, read_refused_at_attributes, read_refused_at_content}
use Rattle.ifmap_forms.specs.AnswerLaws.{read_refused_at_others, read_whole, refused_alone, refused_as_read, refused_exit}
use Rattle.ifmap_forms.specs.Answers.{IsCheckRefusal}
use Rattle.ifmap_forms.specs.Scopes.{scopes_by}
use Rattle.ifmap_forms.specs.Tables.{both, form_check, list_of, parts_in}
use Rattle.ifmap_forms.specs.Values.{session_field}
use Rattle.ifmap_requests.specs.RequestForms.{subscribe_form, subscribe_of, subscribe_op_check}
use Rattle.ifmap_requests.proofs.asking.read_subscribe.Goals as goal

pub returns-in_err-session : goal.returns-in_err-session
returns-in_err-session c =
    let scopes = scopes_by c.args.place.now.declared.now c.args.place.now.path.now in
    let e = c.args.element.now in
    let error = c.in_err-session.field-0.0 in
    refused_exit (form_check subscribe_form subscribe_of scopes e) c.from_residual.result error c.from_residual.ensures.1
    (refused_as_read subscribe_form subscribe_of scopes e error
    (read_refused_at_attributes subscribe_form scopes e error (refused_alone session_field (scopes []) e error c.in_err-session.ensures)))

pub returns-then-not-has_only : goal.returns-then-not-has_only
returns-then-not-has_only c =
    let scopes = scopes_by c.args.place.now.declared.now c.args.place.now.path.now in
    let e = c.args.element.now in
    refused_as_read subscribe_form subscribe_of scopes e (Named Failure)
    (read_refused_at_others subscribe_form scopes e (both c.in_ok-session.session tt)
    (found_alone session_field (scopes []) e c.in_ok-session.session c.in_ok-session.ensures)
    (sym c.has_only.ensures ∙ c.if-not-has_only.true))

pub returns-in_err-ops : goal.returns-in_err-ops
returns-in_err-ops c =
    let scopes = scopes_by c.args.place.now.declared.now c.args.place.now.path.now in
    let e = c.args.element.now in
    let error = c.in_err-ops.field-0.0 in
    refused_exit (form_check subscribe_form subscribe_of scopes e) c.from_residual-in_err-ops.result error
    c.from_residual-in_err-ops.ensures.1
    (refused_as_read subscribe_form subscribe_of scopes e error
    (read_refused_at_content subscribe_form scopes e (both c.in_ok-session.session tt)
    (found_alone session_field (scopes []) e c.in_ok-session.session c.in_ok-session.ensures) error
    (sym c.has_only.ensures ∙ c.if-not-has_only.false)
    (subst (λ (cs : List Child). IsCheckRefusal
    (list_of subscribe_op_check scopes (parts_in cs)) error) c.as_slice.ensures c.in_err-ops.ensures)))

pub returns : goal.returns
returns c =
    let scopes = scopes_by c.args.place.now.declared.now c.args.place.now.path.now in
    let e = c.args.element.now in
    made_as_read subscribe_form subscribe_of scopes e (both c.in_ok-session.session tt) c.in_ok-ops.ops
    (read_whole subscribe_form scopes e (both c.in_ok-session.session tt)
    (found_alone session_field (scopes []) e c.in_ok-session.session c.in_ok-session.ensures) c.in_ok-ops.ops
    (sym c.has_only.ensures ∙ c.if-not-has_only.false)
    (subst (λ (cs : List Child). list_of subscribe_op_check scopes (parts_in cs)
    (Ok c.in_ok-ops.ops)) c.as_slice.ensures c.in_ok-ops.ensures))
