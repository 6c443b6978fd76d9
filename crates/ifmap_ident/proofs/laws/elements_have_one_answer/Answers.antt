use Rattle.ifmap_ident.proofs.SingleLaws.{one_answer, one_identifier}
use Rattle.ifmap_ident.proofs.TotalLaws.{some_answer}
use Rattle.ifmap_ident.proofs.laws.elements_have_one_answer.Goals as goal

pub returns-clause-identifier : goal.returns-clause-identifier
returns-clause-identifier c = one_identifier

pub returns-clause-answer : goal.returns-clause-answer
returns-clause-answer c = one_answer

pub returns-clause-some : goal.returns-clause-some
returns-clause-some c =
    let addresses = c.texts_are_addresses_or_none.ensures in
    some_answer c.bytes_spell_an_element_or_none.ensures addresses.ip_v4 addresses.ip_v6 addresses.mac_address
