use Rattle.std.proofs.Common.{sym}
use Rattle.ifmap_ident.specs.declared.codes.Code.TheVariants.{Failure}
use Rattle.ifmap_replies.specs.declared.kinds.ResultKind.{ResultKind}
use Rattle.ifmap_replies.specs.ResultForms.{result_kind_check, result_kind_of}
use Rattle.ifmap_replies.proofs.FormLaws.{checked_some, refused_none}
use Rattle.ifmap_replies.proofs.responses.read_result.Goals as goal

pub returns-in-Some : goal.returns-in-Some
returns-in-Some c =
    checked_some Failure (result_kind_of c.args.element.name) (λ (kind : ResultKind). result_kind_check kind c.args.element) c.in-Some.kind
    (sym c.in-Some.ensures) c.read_result_kind.result c.read_result_kind.ensures

pub returns-in-None : goal.returns-in-None
returns-in-None c =
    refused_none Failure (result_kind_of c.args.element.name) (λ (kind : ResultKind). result_kind_check kind c.args.element)
    (sym c.in-None.ensures)
