use Rattle.ifmap_replies.proofs.Single.{one_meaning}
use Rattle.ifmap_replies.proofs.laws.bodies_have_one_meaning.Goals as goal

pub returns : goal.returns
returns c = one_meaning c.bytes_spell_one_element.ensures c.elements_have_one_reply.ensures.one
