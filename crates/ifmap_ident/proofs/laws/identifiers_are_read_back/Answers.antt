use Rattle.ifmap_ident.proofs.BackLaws.{read_back}
use Rattle.ifmap_ident.proofs.ElementLaws.{element_arranged, element_fits, element_levels_within}
use Rattle.ifmap_ident.proofs.laws.identifiers_are_read_back.Goals as goal

pub returns-clause-again : goal.returns-clause-again
returns-clause-again c = read_back c.what_bytes_spell_fits.ensures c.addresses_have_one_size.ensures.ip_v4

pub returns-clause-fit : goal.returns-clause-fit
returns-clause-fit c = element_fits c.what_bytes_spell_fits.ensures c.addresses_have_one_size.ensures.ip_v4

pub returns-clause-arranged : goal.returns-clause-arranged
returns-clause-arranged c = element_arranged

pub returns-clause-levels : goal.returns-clause-levels
returns-clause-levels c = element_levels_within
