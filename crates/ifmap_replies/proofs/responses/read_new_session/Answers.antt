use Rattle.std.proofs.Common.{◌∙◌, ℕ, [], List, Ok, ap, codes, sym}
use Rattle.std.specs.List.{list_all}
use Rattle.ifmap_elem.specs.declared.elements.Child.{Child}
use Rattle.ifmap_elem.specs.declared.elements.Element.{Element}
use Rattle.ifmap_ident.specs.declared.codes.Code.TheVariants.{Failure}
use Rattle.ifmap_forms.specs.declared.errors.FormError.TheVariants.{Named}
use Rattle.ifmap_forms.specs.AnswerLaws.{found_alone, found_beside, found_form, refused_alone, refused_at_attributes, refused_at_content}
use Rattle.ifmap_forms.specs.AnswerLaws.{refused_at_field, refused_at_others, refused_beside, refused_exit}
use Rattle.ifmap_elem.specs.WhiteSpace.{is_blank_part}
use Rattle.ifmap_forms.specs.Tables.{table_with, both, form_check, no_attributes, parts_in}
use Rattle.ifmap_forms.specs.Values.{Field, field_check, publisher_field, session_field}
use Rattle.ifmap_replies.specs.Fields.{word_field}
use Rattle.ifmap_replies.specs.ResultForms.{session_result_form, new_session_made, no_scopes}
use Rattle.ifmap_replies.proofs.responses.read_new_session.Goals as goal
use Rattle.ifmap_forms.specs.FormLaws.{blank_children, other_children}

abbrev limit_field : Field ℕ
limit_field = word_field (codes "max-poll-result-size")

module _ (e : Element) (publisher : List ℕ) (limit : ℕ) (session : List ℕ) (p : field_check publisher_field (no_scopes []) e (Ok publisher))
    (l : field_check limit_field (no_scopes []) e (Ok limit)) (s : field_check session_field (no_scopes []) e (Ok session)) where
  attributes_found : session_result_form.attributes.reads (no_scopes []) e (Ok (both publisher (both limit (both session tt))))
  attributes_found =
      found_beside publisher_field (table_with limit_field (table_with session_field no_attributes)) (no_scopes []) e publisher
      (both limit (both session tt)) p
      (found_beside limit_field (table_with session_field no_attributes) (no_scopes []) e limit (both session tt) l
      (found_alone session_field (no_scopes []) e session s))

pub returns-in_err-publisher : goal.returns-in_err-publisher
returns-in_err-publisher c =
    let e = c.args.element.now in
    let error = c.in_err-publisher.field-0.0 in
    refused_exit (form_check session_result_form new_session_made no_scopes e) c.from_residual.result error c.from_residual.ensures.1
    (refused_at_attributes session_result_form new_session_made no_scopes e error
    (refused_at_field publisher_field (table_with limit_field (table_with session_field no_attributes)) (no_scopes []) e error
    c.in_err-publisher.ensures))

pub returns-in_err-limit : goal.returns-in_err-limit
returns-in_err-limit c =
    let e = c.args.element.now in
    let error = c.in_err-limit.field-0.0 in
    refused_exit (form_check session_result_form new_session_made no_scopes e) c.from_residual-in_err-limit.result error
    c.from_residual-in_err-limit.ensures.1
    (refused_at_attributes session_result_form new_session_made no_scopes e error
    (refused_beside publisher_field (table_with limit_field (table_with session_field no_attributes)) (no_scopes []) e
    c.in_ok-publisher.publisher error c.in_ok-publisher.ensures
    (refused_at_field limit_field (table_with session_field no_attributes) (no_scopes []) e error c.in_err-limit.ensures)))

pub returns-in_err-session : goal.returns-in_err-session
returns-in_err-session c =
    let e = c.args.element.now in
    let error = c.in_err-session.field-0.0 in
    refused_exit (form_check session_result_form new_session_made no_scopes e) c.from_residual-in_err-session.result error
    c.from_residual-in_err-session.ensures.1
    (refused_at_attributes session_result_form new_session_made no_scopes e error
    (refused_beside publisher_field (table_with limit_field (table_with session_field no_attributes)) (no_scopes []) e
    c.in_ok-publisher.publisher error c.in_ok-publisher.ensures
    (refused_beside limit_field (table_with session_field no_attributes) (no_scopes []) e c.in_ok-limit.limit error c.in_ok-limit.ensures
    (refused_alone session_field (no_scopes []) e error c.in_err-session.ensures))))

pub returns-then-not-has_only : goal.returns-then-not-has_only
returns-then-not-has_only c =
    let e = c.args.element.now in
    refused_at_others session_result_form new_session_made no_scopes e
    (both c.in_ok-publisher.publisher (both c.in_ok-limit.limit (both c.in_ok-session.session tt)))
    (attributes_found e c.in_ok-publisher.publisher c.in_ok-limit.limit c.in_ok-session.session c.in_ok-publisher.ensures
    c.in_ok-limit.ensures c.in_ok-session.ensures)
    (sym c.has_only.ensures ∙ c.if-not-has_only.true)

pub returns-then-not-are_blank : goal.returns-then-not-are_blank
returns-then-not-are_blank c =
    let e = c.args.element.now in
    refused_at_content session_result_form new_session_made no_scopes e
    (both c.in_ok-publisher.publisher (both c.in_ok-limit.limit (both c.in_ok-session.session tt)))
    (attributes_found e c.in_ok-publisher.publisher c.in_ok-limit.limit c.in_ok-session.session c.in_ok-publisher.ensures
    c.in_ok-limit.ensures c.in_ok-session.ensures) (Named Failure) (sym c.has_only.ensures ∙ c.if-not-has_only.false)
    (other_children no_scopes e (ap (λ (cs : List Child). list_all is_blank_part (parts_in cs)) (sym c.as_slice.ensures)
    ∙ (sym c.are_blank.ensures ∙ c.if-not-are_blank.true)))

pub returns : goal.returns
returns c =
    let e = c.args.element.now in
    found_form session_result_form new_session_made no_scopes e
    (both c.in_ok-publisher.publisher (both c.in_ok-limit.limit (both c.in_ok-session.session tt)))
    (attributes_found e c.in_ok-publisher.publisher c.in_ok-limit.limit c.in_ok-session.session c.in_ok-publisher.ensures
    c.in_ok-limit.ensures c.in_ok-session.ensures) tt (sym c.has_only.ensures ∙ c.if-not-has_only.false)
    (blank_children no_scopes e (ap (λ (cs : List Child). list_all is_blank_part (parts_in cs)) (sym c.as_slice.ensures)
    ∙ (sym c.are_blank.ensures ∙ c.if-not-are_blank.false)))
