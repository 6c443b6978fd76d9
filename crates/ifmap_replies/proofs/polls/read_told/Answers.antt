use Rattle.std.proofs.Common.{[], ◌∙◌, List, Ok, codes, subst, sym}
use Rattle.ifmap_elem.specs.declared.elements.Child.{Child}
use Rattle.ifmap_forms.specs.AnswerLaws.{found_alone, found_form, refused_alone, refused_at_attributes, refused_at_content}
use Rattle.ifmap_forms.specs.AnswerLaws.{refused_at_others, refused_exit}
use Rattle.ifmap_forms.specs.Answers.{IsCheckRefusal}
use Rattle.ifmap_forms.specs.Tables.{both, form_check, parts_in}
use Rattle.ifmap_forms.specs.Values.{text_field}
use Rattle.ifmap_replies.specs.ResultForms.{entries_check, no_scopes, told_form, told_made}
use Rattle.ifmap_replies.proofs.polls.read_told.Goals as goal

pub returns-in_err-name : goal.returns-in_err-name
returns-in_err-name c =
    let e = c.args.element in
    let kind = c.args.kind in
    let error = c.in_err-name.field-0.0 in
    refused_exit (form_check (told_form kind) (told_made kind) no_scopes e) c.from_residual.result error c.from_residual.ensures.1
    (refused_at_attributes (told_form kind) (told_made kind) no_scopes e error
    (refused_alone (text_field (codes "name")) (no_scopes []) e error c.in_err-name.ensures))

pub returns-then-not-has_only : goal.returns-then-not-has_only
returns-then-not-has_only c =
    let e = c.args.element in
    let kind = c.args.kind in
    refused_at_others (told_form kind) (told_made kind) no_scopes e (both c.in_ok-name.name tt)
    (found_alone (text_field (codes "name")) (no_scopes []) e c.in_ok-name.name c.in_ok-name.ensures)
    (sym c.has_only.ensures ∙ c.if-not-has_only.true)

pub returns-in_err-entries : goal.returns-in_err-entries
returns-in_err-entries c =
    let e = c.args.element in
    let kind = c.args.kind in
    let error = c.in_err-entries.field-0.0 in
    refused_exit (form_check (told_form kind) (told_made kind) no_scopes e) c.from_residual-in_err-entries.result error
    c.from_residual-in_err-entries.ensures.1
    (refused_at_content (told_form kind) (told_made kind) no_scopes e (both c.in_ok-name.name tt)
    (found_alone (text_field (codes "name")) (no_scopes []) e c.in_ok-name.name c.in_ok-name.ensures) error
    (sym c.has_only.ensures ∙ c.if-not-has_only.false)
    (subst (λ (cs : List Child). IsCheckRefusal (entries_check (parts_in cs)) error) c.children.view_is c.in_err-entries.ensures))

pub returns : goal.returns
returns c =
    let e = c.args.element in
    let kind = c.args.kind in
    subst (λ item. form_check (told_form kind) (told_made kind) no_scopes e (Ok item)) (sym c.told_item.ensures)
    (found_form (told_form kind) (told_made kind) no_scopes e (both c.in_ok-name.name tt)
    (found_alone (text_field (codes "name")) (no_scopes []) e c.in_ok-name.name c.in_ok-name.ensures) c.in_ok-entries.entries
    (sym c.has_only.ensures ∙ c.if-not-has_only.false)
    (subst (λ (cs : List Child). entries_check (parts_in cs) (Ok c.in_ok-entries.entries)) c.children.view_is c.in_ok-entries.ensures))
