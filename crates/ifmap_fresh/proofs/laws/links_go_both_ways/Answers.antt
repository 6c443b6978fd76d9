use Rattle.ifmap_fresh.specs.laws.JoiningLaws.{no_loop, links_are_symmetric}
use Rattle.ifmap_fresh.proofs.laws.links_go_both_ways.Goals as goal

pub returns-clause-symmetric : goal.returns-clause-symmetric
returns-clause-symmetric c = λ rows id_at links s view. links_are_symmetric rows id_at links s.match_links view

pub returns-clause-apart : goal.returns-clause-apart
returns-clause-apart c = λ rows id_at links s v view. no_loop rows id_at links s.match_links view v
