use Rattle.std.proofs.Common.{[], ◌∙◌, List, Ok, codes, subst, sym}
use Rattle.ifmap_elem.specs.declared.elements.Child.{Child}
use Rattle.ifmap_forms.specs.AnswerLaws.{found_alone, found_beside, found_form, refused_alone, refused_at_attributes, refused_at_content}
use Rattle.ifmap_forms.specs.AnswerLaws.{refused_at_field, refused_at_others, refused_beside, refused_exit}
use Rattle.ifmap_forms.specs.Answers.{IsCheckRefusal}
use Rattle.ifmap_forms.specs.Tables.{table_with, both, form_check, no_attributes, parts_in}
use Rattle.ifmap_replies.specs.Fields.{code_field, optional_field}
use Rattle.ifmap_replies.specs.ResultForms.{no_scopes, note_check, only_check, told_error_form, told_error_made}
use Rattle.ifmap_replies.proofs.polls.read_told_error.Goals as goal

pub returns-in_err-code : goal.returns-in_err-code
returns-in_err-code c =
    let e = c.args.element in
    let error = c.in_err-code.field-0.0 in
    refused_exit (form_check told_error_form told_error_made no_scopes e) c.from_residual.result error c.from_residual.ensures.1
    (refused_at_attributes told_error_form told_error_made no_scopes e error
    (refused_at_field code_field (table_with (optional_field (codes "name")) no_attributes) (no_scopes []) e error c.in_err-code.ensures))

pub returns-in_err-name : goal.returns-in_err-name
returns-in_err-name c =
    let e = c.args.element in
    let error = c.in_err-name.field-0.0 in
    refused_exit (form_check told_error_form told_error_made no_scopes e) c.from_residual-in_err-name.result error
    c.from_residual-in_err-name.ensures.1
    (refused_at_attributes told_error_form told_error_made no_scopes e error
    (refused_beside code_field (table_with (optional_field (codes "name")) no_attributes) (no_scopes []) e c.in_ok-code.code error
    c.in_ok-code.ensures (refused_alone (optional_field (codes "name")) (no_scopes []) e error c.in_err-name.ensures)))

pub returns-then-not-has_only : goal.returns-then-not-has_only
returns-then-not-has_only c =
    let e = c.args.element in
    refused_at_others told_error_form told_error_made no_scopes e (both c.in_ok-code.code (both c.in_ok-name.name tt))
    (found_beside code_field (table_with (optional_field (codes "name")) no_attributes) (no_scopes []) e c.in_ok-code.code
    (both c.in_ok-name.name tt) c.in_ok-code.ensures
    (found_alone (optional_field (codes "name")) (no_scopes []) e c.in_ok-name.name c.in_ok-name.ensures))
    (sym c.has_only.ensures ∙ c.if-not-has_only.true)

pub returns-in_err-note : goal.returns-in_err-note
returns-in_err-note c =
    let e = c.args.element in
    let error = c.in_err-note.field-0.0 in
    refused_exit (form_check told_error_form told_error_made no_scopes e) c.from_residual-in_err-note.result error
    c.from_residual-in_err-note.ensures.1
    (refused_at_content told_error_form told_error_made no_scopes e (both c.in_ok-code.code (both c.in_ok-name.name tt))
    (found_beside code_field (table_with (optional_field (codes "name")) no_attributes) (no_scopes []) e c.in_ok-code.code
    (both c.in_ok-name.name tt) c.in_ok-code.ensures
    (found_alone (optional_field (codes "name")) (no_scopes []) e c.in_ok-name.name c.in_ok-name.ensures)) error
    (sym c.has_only.ensures ∙ c.if-not-has_only.false)
    (subst (λ (cs : List Child). IsCheckRefusal (only_check note_check (parts_in cs)) error) c.children.view_is c.in_err-note.ensures))

pub returns : goal.returns
returns c =
    let e = c.args.element in
    found_form told_error_form told_error_made no_scopes e (both c.in_ok-code.code (both c.in_ok-name.name tt))
    (found_beside code_field (table_with (optional_field (codes "name")) no_attributes) (no_scopes []) e c.in_ok-code.code
    (both c.in_ok-name.name tt) c.in_ok-code.ensures
    (found_alone (optional_field (codes "name")) (no_scopes []) e c.in_ok-name.name c.in_ok-name.ensures)) c.in_ok-note.note
    (sym c.has_only.ensures ∙ c.if-not-has_only.false)
    (subst (λ (cs : List Child). only_check note_check (parts_in cs) (Ok c.in_ok-note.note)) c.children.view_is c.in_ok-note.ensures)
