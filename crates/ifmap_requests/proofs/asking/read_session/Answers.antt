use Rattle.std.proofs.Common.{[], ◌∙◌, List, ap, sym}
use Rattle.std.specs.List.{list_all}
use Rattle.ifmap_elem.specs.declared.elements.Child.{Child}
use Rattle.ifmap_ident.specs.declared.codes.Code.TheVariants.{Failure}
use Rattle.ifmap_forms.specs.declared.errors.FormError.TheVariants.{Named}
use Rattle.ifmap_forms.specs.AnswerLaws.{found_alone, read_refused_at_attributes, read_refused_at_content, read_refused_at_others}
use Rattle.ifmap_forms.specs.AnswerLaws.{read_whole, refused_alone, refused_exit_as}
use Rattle.ifmap_elem.specs.WhiteSpace.{is_blank_part}
use Rattle.ifmap_forms.specs.Tables.{both, parts_in, read_form}
use Rattle.ifmap_requests.specs.RequestForms.{renew_form, session_alone}
use Rattle.ifmap_requests.proofs.asking.read_session.Goals as goal
use Rattle.ifmap_forms.specs.FormLaws.{blank_children, other_children}
use Rattle.ifmap_forms.specs.Values.{session_field}

pub returns-in_err-session : goal.returns-in_err-session
returns-in_err-session c = λ scopes.
    let e = c.args.element.now in
    let error = c.in_err-session.field-0.0 in
    refused_exit_as session_alone (read_form renew_form scopes e) c.from_residual.result error c.from_residual.ensures.1
    (read_refused_at_attributes renew_form scopes e error (refused_alone session_field (scopes []) e error c.in_err-session.ensures))

pub returns-then-not-has_only : goal.returns-then-not-has_only
returns-then-not-has_only c = λ scopes.
    let e = c.args.element.now in
    (read_refused_at_others renew_form scopes e (both c.in_ok-session.session tt)
    (found_alone session_field (scopes []) e c.in_ok-session.session c.in_ok-session.ensures)
    (sym c.has_only.ensures ∙ c.if-not-has_only.true))

pub returns-then-not-are_blank : goal.returns-then-not-are_blank
returns-then-not-are_blank c = λ scopes.
    let e = c.args.element.now in
    (read_refused_at_content renew_form scopes e (both c.in_ok-session.session tt)
    (found_alone session_field (scopes []) e c.in_ok-session.session c.in_ok-session.ensures) (Named Failure)
    (sym c.has_only.ensures ∙ c.if-not-has_only.false)
    (other_children scopes e (ap (λ (cs : List Child). list_all is_blank_part (parts_in cs)) (sym c.as_slice.ensures)
    ∙ (sym c.are_blank.ensures ∙ c.if-not-are_blank.true))))

pub returns : goal.returns
returns c = λ scopes.
    let e = c.args.element.now in
    (read_whole renew_form scopes e (both c.in_ok-session.session tt)
    (found_alone session_field (scopes []) e c.in_ok-session.session c.in_ok-session.ensures) tt
    (sym c.has_only.ensures ∙ c.if-not-has_only.false)
    (blank_children scopes e (ap (λ (cs : List Child). list_all is_blank_part (parts_in cs)) (sym c.as_slice.ensures)
    ∙ (sym c.are_blank.ensures ∙ c.if-not-are_blank.false))))
