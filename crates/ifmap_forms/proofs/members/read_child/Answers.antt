use Rattle.ifmap_elem.specs.declared.elements.Child.{out-Child}
use Rattle.ifmap_forms.specs.AnswerLaws.{refused_exit}
use Rattle.ifmap_forms.specs.Gathering.{part_check, part_found, part_refused, text_answers_part}
use Rattle.ifmap_forms.proofs.members.read_child.Goals as goal

pub returns-in_err-read_member-in-Element : goal.returns-in_err-read_member-in-Element
returns-in_err-read_member-in-Element g c =
    let error = c.in_err-read_member-in-Element.field-0.0 in
    refused_exit (part_check g.R.MemberReader.finds (out-Child c.args.child)) c.from_residual.result error c.from_residual.ensures.1
    (part_refused g.R.MemberReader.finds c.args.child c.in-Element.element c.in-Element.is error c.in_err-read_member-in-Element.ensures)

pub returns-in_ok-read_member-in-Element : goal.returns-in_ok-read_member-in-Element
returns-in_ok-read_member-in-Element g c =
    part_found g.R.MemberReader.finds c.args.child c.in-Element.element c.in-Element.is c.in_ok-read_member-in-Element.field-0
    c.in_ok-read_member-in-Element.ensures

pub returns-in-Text : goal.returns-in-Text
returns-in-Text g c =
    text_answers_part g.R.MemberReader.finds c.args.child c.in-Text.text c.in-Text.is c.pass_over_text.result
    c.pass_over_text.ensures.answer
