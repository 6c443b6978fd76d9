use Rattle.ifmap_client.proofs.LineLaws.{one_line}
use Rattle.ifmap_client.proofs.laws.lines_mean_one_thing.Goals as goal

pub returns : goal.returns
returns c = one_line c.bytes_spell_one_element.ensures c.elements_have_one_request_or_code.ensures.one
