use Rattle.std.proofs.Common.{◌∙◌, List, refl, subst, sym}
use Rattle.ifmap_elem.specs.declared.elements.Child.{Child}
use Rattle.ifmap_forms.specs.AnswerLaws.{refused_at_others}
use Rattle.ifmap_forms.specs.Answers.{IsChecked}
use Rattle.ifmap_forms.specs.Tables.{parts_in}
use Rattle.ifmap_replies.specs.ResultForms.{no_scopes, only_check, response_form, response_made, result_check}
use Rattle.ifmap_replies.proofs.FormLaws.{content_alone}
use Rattle.ifmap_replies.proofs.responses.read_response_inside.Goals as goal

pub returns-then-not-has_only : goal.returns-then-not-has_only
returns-then-not-has_only c =
    refused_at_others response_form response_made no_scopes c.args.element tt refl (sym c.has_only.ensures ∙ c.if-not-has_only.true)

pub returns : goal.returns
returns c =
    content_alone response_form response_made no_scopes c.args.element tt refl (λ answer. refl)
    (sym c.has_only.ensures ∙ c.if-not-has_only.false) c.read_only_member.result
    (subst (λ (cs : List Child). IsChecked (only_check result_check (parts_in cs)) c.read_only_member.result) c.children.view_is
    c.read_only_member.ensures)
