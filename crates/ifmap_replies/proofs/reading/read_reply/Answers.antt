use Rattle.ifmap_replies.proofs.ReadingLaws.{body_answer, spells_nothing, spells_too_deep}
use Rattle.ifmap_replies.proofs.reading.read_reply.Goals as goal

pub returns-in-Ok : goal.returns-in-Ok
returns-in-Ok c =
    body_answer c.args.body.now c.in-Ok.reading c.in-Ok.ensures.answer.0 c.in-Ok.ensures.answer.1
    (λ other spelled. c.bytes_spell_one_element.ensures c.args.body.now c.in-Ok.reading other c.in-Ok.ensures.answer.0 spelled)
    c.read_envelope.result c.read_envelope.ensures

pub returns-in-Err-Unreadable : goal.returns-in-Err-Unreadable
returns-in-Err-Unreadable c =
    spells_nothing c.args.body.now c.in-Err-Unreadable.field-0-0
    (rw c.in-Err-Unreadable.field-0-is at c.in-Err-Unreadable.ensures.answer)

pub returns-in-Err-TooDeep : goal.returns-in-Err-TooDeep
returns-in-Err-TooDeep c =
    spells_too_deep c.args.body.now c.in-Err-TooDeep.field-0-0 (rw c.in-Err-TooDeep.field-0-is at c.in-Err-TooDeep.ensures.answer)
