use Rattle.ifmap_client.proofs.LineLaws.{request_answer, spells_no_request}
use Rattle.ifmap_client.proofs.lines.request_on.Goals as goal

pub returns-in-Ok : goal.returns-in-Ok
returns-in-Ok c =
    request_answer c.bytes_spell_one_element.ensures c.args.line.now c.in-Ok.reading c.in-Ok.ensures.answer.0
    c.in-Ok.ensures.answer.1 c.request_of_reading.result c.request_of_reading.ensures

pub returns-in-Err-Unreadable : goal.returns-in-Err-Unreadable
returns-in-Err-Unreadable c =
    spells_no_request c.args.line.now c.in-Err-Unreadable.field-0-0
    (rw c.in-Err-Unreadable.field-0-is at c.in-Err-Unreadable.ensures.answer)
