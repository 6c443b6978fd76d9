use Rattle.std.proofs.Common.{sym}
use Rattle.ifmap_forms.specs.AnswerLaws.{refused_exit}
use Rattle.ifmap_forms.specs.Tables.{parts_in}
use Rattle.ifmap_replies.specs.ResultForms.{only_check}
use Rattle.ifmap_replies.proofs.FormLaws.{member_alone, none_alone, refused_member}
use Rattle.ifmap_replies.proofs.members.read_only_member.Goals as goal

pub returns-in_err-members : goal.returns-in_err-members
returns-in_err-members g c =
    let parts = parts_in c.args.children.items in
    let error = c.in_err-members.field-0.0 in
    refused_exit (only_check g.R.MemberReader.finds parts) c.from_residual.result error c.from_residual.ensures.1
    (refused_member g.R.MemberReader.finds parts error c.in_err-members.ensures)

pub returns-in-Some : goal.returns-in-Some
returns-in-Some g c =
    member_alone g.R.MemberReader.finds (parts_in c.args.children.items) c.in_ok-members.members.items c.in_ok-members.ensures
    c.in-Some.member (sym c.in-Some.ensures)

pub returns-in-None : goal.returns-in-None
returns-in-None g c =
    none_alone g.R.MemberReader.finds (parts_in c.args.children.items) c.in_ok-members.members.items c.in_ok-members.ensures
    (sym c.in-None.ensures)
