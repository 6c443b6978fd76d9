use Rattle.std.proofs.Common.{◌∙◌, List, refl, subst, sym}
use Rattle.ifmap_elem.specs.declared.elements.Child.{Child}
use Rattle.ifmap_forms.specs.AnswerLaws.{refused_at_others}
use Rattle.ifmap_forms.specs.Answers.{IsChecked}
use Rattle.ifmap_forms.specs.Tables.{parts_in}
use Rattle.ifmap_replies.specs.ResultForms.{no_scopes, run_form, run_made, run_parts}
use Rattle.ifmap_replies.proofs.FormLaws.{content_alone}
use Rattle.ifmap_replies.proofs.entry_lists.read_named_run.Goals as goal

pub returns-then-not-has_only : goal.returns-then-not-has_only
returns-then-not-has_only c =
    refused_at_others run_form run_made no_scopes c.args.element tt refl (sym c.has_only.ensures ∙ c.if-not-has_only.true)

pub returns : goal.returns
returns c =
    content_alone run_form run_made no_scopes c.args.element tt refl (λ run. refl) (sym c.has_only.ensures ∙ c.if-not-has_only.false)
    c.read_run_parts.result
    (subst (λ (cs : List Child). IsChecked (run_parts (parts_in cs)) c.read_run_parts.result) c.children.view_is c.read_run_parts.ensures)
