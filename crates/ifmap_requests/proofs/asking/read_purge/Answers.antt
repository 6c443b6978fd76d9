use Rattle.std.proofs.Common.{[], ◌∙◌, List, ap, sym}
use Rattle.std.specs.List.{list_all}
use Rattle.ifmap_elem.specs.declared.elements.Child.{Child}
use Rattle.ifmap_ident.specs.declared.codes.Code.TheVariants.{Failure}
use Rattle.ifmap_forms.specs.declared.errors.FormError.TheVariants.{Named}
use Rattle.ifmap_forms.specs.AnswerLaws.{found_alone, found_beside, made_as_read, read_refused_at_attributes, read_refused_at_content}
use Rattle.ifmap_forms.specs.AnswerLaws.{read_refused_at_others, read_whole, refused_alone, refused_as_read, refused_at_field}
use Rattle.ifmap_forms.specs.AnswerLaws.{refused_beside, refused_exit}
use Rattle.ifmap_elem.specs.WhiteSpace.{is_blank_part}
use Rattle.ifmap_forms.specs.Tables.{table_with, both, form_check, no_attributes, parts_in}
use Rattle.ifmap_requests.specs.RequestForms.{purge_form, purge_of}
use Rattle.ifmap_requests.proofs.asking.read_purge.Goals as goal
use Rattle.ifmap_forms.specs.FormLaws.{blank_children, other_children}
use Rattle.ifmap_forms.specs.Values.{publisher_field, session_field}

pub returns-in_err-session : goal.returns-in_err-session
returns-in_err-session c = λ scopes.
    let e = c.args.element.now in
    let error = c.in_err-session.field-0.0 in
    refused_exit (form_check purge_form purge_of scopes e) c.from_residual.result error c.from_residual.ensures.1
    (refused_as_read purge_form purge_of scopes e error (read_refused_at_attributes purge_form scopes e error
    (refused_at_field session_field (table_with publisher_field no_attributes) (scopes []) e error c.in_err-session.ensures)))

pub returns-in_err-publisher : goal.returns-in_err-publisher
returns-in_err-publisher c = λ scopes.
    let e = c.args.element.now in
    let error = c.in_err-publisher.field-0.0 in
    refused_exit (form_check purge_form purge_of scopes e) c.from_residual-in_err-publisher.result error
    c.from_residual-in_err-publisher.ensures.1
    (refused_as_read purge_form purge_of scopes e error (read_refused_at_attributes purge_form scopes e error
    (refused_beside session_field (table_with publisher_field no_attributes) (scopes []) e c.in_ok-session.session error
    c.in_ok-session.ensures
    (refused_alone publisher_field (scopes []) e error c.in_err-publisher.ensures))))

pub returns-then-not-has_only : goal.returns-then-not-has_only
returns-then-not-has_only c = λ scopes.
    let e = c.args.element.now in
    refused_as_read purge_form purge_of scopes e (Named Failure)
    (read_refused_at_others purge_form scopes e (both c.in_ok-session.session (both c.in_ok-publisher.publisher tt))
    (found_beside session_field (table_with publisher_field no_attributes) (scopes []) e c.in_ok-session.session
    (both c.in_ok-publisher.publisher tt) c.in_ok-session.ensures
    (found_alone publisher_field (scopes []) e c.in_ok-publisher.publisher c.in_ok-publisher.ensures))
    (sym c.has_only.ensures ∙ c.if-not-has_only.true))

pub returns-then-not-are_blank : goal.returns-then-not-are_blank
returns-then-not-are_blank c = λ scopes.
    let e = c.args.element.now in
    refused_as_read purge_form purge_of scopes e (Named Failure)
    (read_refused_at_content purge_form scopes e (both c.in_ok-session.session (both c.in_ok-publisher.publisher tt))
    (found_beside session_field (table_with publisher_field no_attributes) (scopes []) e c.in_ok-session.session
    (both c.in_ok-publisher.publisher tt) c.in_ok-session.ensures
    (found_alone publisher_field (scopes []) e c.in_ok-publisher.publisher c.in_ok-publisher.ensures)) (Named Failure)
    (sym c.has_only.ensures ∙ c.if-not-has_only.false)
    (other_children scopes e (ap (λ (cs : List Child). list_all is_blank_part (parts_in cs)) (sym c.as_slice.ensures)
    ∙ (sym c.are_blank.ensures ∙ c.if-not-are_blank.true))))

pub returns : goal.returns
returns c = λ scopes.
    let e = c.args.element.now in
    made_as_read purge_form purge_of scopes e (both c.in_ok-session.session (both c.in_ok-publisher.publisher tt)) tt
    (read_whole purge_form scopes e (both c.in_ok-session.session (both c.in_ok-publisher.publisher tt))
    (found_beside session_field (table_with publisher_field no_attributes) (scopes []) e c.in_ok-session.session
    (both c.in_ok-publisher.publisher tt) c.in_ok-session.ensures
    (found_alone publisher_field (scopes []) e c.in_ok-publisher.publisher c.in_ok-publisher.ensures)) tt
    (sym c.has_only.ensures ∙ c.if-not-has_only.false)
    (blank_children scopes e (ap (λ (cs : List Child). list_all is_blank_part (parts_in cs)) (sym c.as_slice.ensures)
    ∙ (sym c.are_blank.ensures ∙ c.if-not-are_blank.false))))
