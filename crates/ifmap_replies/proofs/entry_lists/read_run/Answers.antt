use Rattle.std.proofs.Common.{◌∙◌, codes, sym}
use Rattle.ifmap_elem.specs.Building.{is_bare}
use Rattle.ifmap_ident.specs.declared.codes.Code.TheVariants.{Failure}
use Rattle.ifmap_forms.specs.AnswerLaws.{refused_test}
use Rattle.ifmap_forms.specs.Tables.{form_check}
use Rattle.ifmap_replies.specs.ResultForms.{no_scopes, run_form, run_made}
use Rattle.ifmap_replies.proofs.FormLaws.{checked_after}
use Rattle.ifmap_replies.proofs.entry_lists.read_run.Goals as goal

pub returns-then-not-is_bare : goal.returns-then-not-is_bare
returns-then-not-is_bare c =
    refused_test (form_check run_form run_made no_scopes c.args.element) (is_bare (codes "resultItem") c.args.element.name) Failure
    (sym c.is_bare.ensures ∙ c.if-not-is_bare.true)

pub returns : goal.returns
returns c =
    checked_after (form_check run_form run_made no_scopes c.args.element) (is_bare (codes "resultItem") c.args.element.name) Failure
    (sym c.is_bare.ensures ∙ c.if-not-is_bare.false) c.read_named_run.result c.read_named_run.ensures
