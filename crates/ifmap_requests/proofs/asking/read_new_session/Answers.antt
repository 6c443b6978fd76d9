use Rattle.std.proofs.Common.{[], ◌∙◌, List, ap, sym}
use Rattle.std.specs.List.{list_all}
use Rattle.ifmap_elem.specs.declared.elements.Child.{Child}
use Rattle.ifmap_ident.specs.declared.codes.Code.TheVariants.{Failure}
use Rattle.ifmap_forms.specs.declared.errors.FormError.TheVariants.{Named}
use Rattle.ifmap_forms.specs.AnswerLaws.{found_alone, made_as_read, read_refused_at_attributes, read_refused_at_content}
use Rattle.ifmap_forms.specs.AnswerLaws.{read_refused_at_others, read_whole, refused_alone, refused_as_read, refused_exit}
use Rattle.ifmap_elem.specs.WhiteSpace.{is_blank_part}
use Rattle.ifmap_forms.specs.Tables.{both, form_check, parts_in}
use Rattle.ifmap_forms.specs.Values.{limit_field}
use Rattle.ifmap_requests.specs.RequestForms.{new_session_form, new_session_of}
use Rattle.ifmap_requests.proofs.asking.read_new_session.Goals as goal
use Rattle.ifmap_forms.specs.FormLaws.{blank_children, other_children}

pub returns-in_err-limit : goal.returns-in_err-limit
returns-in_err-limit c = λ scopes.
    let e = c.args.element.now in
    let error = c.in_err-limit.field-0.0 in
    refused_exit (form_check new_session_form new_session_of scopes e) c.from_residual.result error c.from_residual.ensures.1
    (refused_as_read new_session_form new_session_of scopes e error
    (read_refused_at_attributes new_session_form scopes e error
    (refused_alone limit_field (scopes []) e error c.in_err-limit.ensures.answer)))

pub returns-then-not-has_only : goal.returns-then-not-has_only
returns-then-not-has_only c = λ scopes.
    let e = c.args.element.now in
    (refused_as_read new_session_form new_session_of scopes e (Named Failure)
    (read_refused_at_others new_session_form scopes e (both c.in_ok-limit.limit tt)
    (found_alone limit_field (scopes []) e c.in_ok-limit.limit c.in_ok-limit.ensures.answer)
    (sym c.has_only.ensures ∙ c.if-not-has_only.true)))

pub returns-then-not-are_blank : goal.returns-then-not-are_blank
returns-then-not-are_blank c = λ scopes.
    let e = c.args.element.now in
    (refused_as_read new_session_form new_session_of scopes e (Named Failure)
    (read_refused_at_content new_session_form scopes e (both c.in_ok-limit.limit tt)
    (found_alone limit_field (scopes []) e c.in_ok-limit.limit c.in_ok-limit.ensures.answer) (Named Failure)
    (sym c.has_only.ensures ∙ c.if-not-has_only.false)
    (other_children scopes e (ap (λ (cs : List Child). list_all is_blank_part (parts_in cs)) (sym c.as_slice.ensures)
    ∙ (sym c.are_blank.ensures ∙ c.if-not-are_blank.true)))))

pub returns : goal.returns
returns c = λ scopes.
    let e = c.args.element.now in
    made_as_read new_session_form new_session_of scopes e (both c.in_ok-limit.limit tt) tt
    (read_whole new_session_form scopes e (both c.in_ok-limit.limit tt)
    (found_alone limit_field (scopes []) e c.in_ok-limit.limit c.in_ok-limit.ensures.answer) tt
    (sym c.has_only.ensures ∙ c.if-not-has_only.false)
    (blank_children scopes e (ap (λ (cs : List Child). list_all is_blank_part (parts_in cs)) (sym c.as_slice.ensures)
    ∙ (sym c.are_blank.ensures ∙ c.if-not-are_blank.false))))
