use Rattle.std.proofs.Common.{◌∙◌, sym}
use Rattle.ifmap_ident.specs.declared.codes.Code.TheVariants.{Failure}
use Rattle.ifmap_forms.specs.AnswerLaws.{refused_test}
use Rattle.ifmap_forms.specs.Tables.{form_check}
use Rattle.ifmap_replies.specs.Results.{response_name}
use Rattle.ifmap_replies.specs.ResultForms.{no_scopes, response_form, response_made}
use Rattle.ifmap_replies.proofs.FormLaws.{checked_after}
use Rattle.ifmap_replies.proofs.responses.read_response.Goals as goal
use Rattle.ifmap_elem.specs.Building.{is_name}

pub returns-then-not-is_response : goal.returns-then-not-is_response
returns-then-not-is_response c =
    refused_test (form_check response_form response_made no_scopes c.args.element) (is_name c.args.element.name response_name) Failure
    (sym c.is_response.ensures ∙ c.if-not-is_response.true)

pub returns : goal.returns
returns c =
    checked_after (form_check response_form response_made no_scopes c.args.element) (is_name c.args.element.name response_name) Failure
    (sym c.is_response.ensures ∙ c.if-not-is_response.false) c.read_response_inside.result c.read_response_inside.ensures
