use Rattle.ifmap_client.proofs.LineLaws.{defect_is_no_request}
use Rattle.ifmap_client.proofs.lines.request_of_reading.Goals as goal

pub returns-in-Err-Named : goal.returns-in-Err-Named
returns-in-Err-Named c =
    defect_is_no_request c.elements_have_one_request_or_code.ensures.one c.args.reading.now c.in-Err-Named.field-0-0
    (rw c.in-Err-Named.field-0-is at c.in-Err-Named.ensures)
