use Rattle.ifmap_requests.proofs.MeaningLaws.{meaning_one}
use Rattle.ifmap_requests.proofs.laws.bodies_have_one_meaning.Goals as goal

pub returns : goal.returns
returns c =
    meaning_one c.bytes_spell_one_element.ensures c.envelopes_hold_one_element.ensures
    c.elements_have_one_request_or_code.ensures.one
