use Rattle.ifmap_elem.specs.declared.elements.Child.{out-Child}
use Rattle.ifmap_forms.specs.AnswerLaws.{refused_exit}
use Rattle.ifmap_forms.specs.Gathering.{following_check, part_check, part_found, part_refused, text_answers_part}
use Rattle.ifmap_forms.proofs.identifiers.next_identifier.Goals as goal

pub returns-in_err-following_identifier-in-Element : goal.returns-in_err-following_identifier-in-Element
returns-in_err-following_identifier-in-Element c =
    let one = following_check c.args.most c.args.before.now in
    let error = c.in_err-following_identifier-in-Element.field-0.0 in
    refused_exit (part_check one (out-Child c.args.child.now)) c.from_residual.result error c.from_residual.ensures.1
    (part_refused one c.args.child.now c.in-Element.element c.in-Element.is error c.in_err-following_identifier-in-Element.ensures)

pub returns-in_ok-following_identifier-in-Element : goal.returns-in_ok-following_identifier-in-Element
returns-in_ok-following_identifier-in-Element c =
    part_found (following_check c.args.most c.args.before.now) c.args.child.now c.in-Element.element c.in-Element.is
    c.in_ok-following_identifier-in-Element.field-0 c.in_ok-following_identifier-in-Element.ensures

pub returns-in-Text : goal.returns-in-Text
returns-in-Text c =
    text_answers_part (following_check c.args.most c.args.before.now) c.args.child.now c.in-Text.text c.in-Text.is
    c.pass_over_text.result c.pass_over_text.ensures.answer
