use Rattle.std.proofs.Common.{◌∙◌, List, Ok, refl, subst, sym}
use Rattle.ifmap_elem.specs.declared.elements.Child.{Child}
use Rattle.ifmap_forms.specs.AnswerLaws as laws
use Rattle.ifmap_forms.specs.Answers.{IsCheckRefusal}
use Rattle.ifmap_forms.specs.Tables.{form_check, members_check, parts_in}
use Rattle.ifmap_replies.specs.ResultForms.{no_scopes, poll_check, polled_form, polled_made}
use Rattle.ifmap_replies.proofs.responses.read_polled.Goals as goal

pub returns-then-not-has_only : goal.returns-then-not-has_only
returns-then-not-has_only c =
    laws.refused_at_others polled_form polled_made no_scopes c.args.element tt refl (sym c.has_only.ensures ∙ c.if-not-has_only.true)

pub returns-in_err-items : goal.returns-in_err-items
returns-in_err-items c =
    let e = c.args.element in
    let error = c.in_err-items.field-0.0 in
    laws.refused_exit (form_check polled_form polled_made no_scopes e) c.from_residual.result error c.from_residual.ensures.1
    (laws.refused_at_content polled_form polled_made no_scopes e tt refl error (sym c.has_only.ensures ∙ c.if-not-has_only.false)
    (subst (λ (cs : List Child). IsCheckRefusal (members_check poll_check (parts_in cs)) error) c.children.view_is c.in_err-items.ensures))

pub returns : goal.returns
returns c =
    let e = c.args.element in
    let found = c.in_ok-items.items.items in
    laws.found_form polled_form polled_made no_scopes e tt refl found (sym c.has_only.ensures ∙ c.if-not-has_only.false)
    (subst (λ (cs : List Child). members_check poll_check (parts_in cs) (Ok found)) c.children.view_is c.in_ok-items.ensures)
