use Rattle.ifmap_envelopes.proofs.Alone.{one_envelope}
use Rattle.ifmap_envelopes.proofs.laws.envelopes_hold_one_element.Goals as goal

pub returns : goal.returns
returns c = one_envelope
