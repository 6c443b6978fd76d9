use Rattle.ifmap_requests.proofs.Meant.{meaning_some}
use Rattle.ifmap_requests.proofs.laws.bodies_mean_something.Goals as goal

pub returns : goal.returns
returns c =
    meaning_some c.elements_have_one_request_or_code.ensures.some c.bytes_spell_one_element.ensures c.what_bytes_spell_fits.ensures
    c.elements_are_envelopes_or_none.ensures c.bytes_spell_an_element_or_none.ensures
