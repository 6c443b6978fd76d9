use Rattle.ifmap_filter.proofs.SpaceLaws.{listed_serve, more_serve}
use Rattle.ifmap_filter.proofs.laws.listed_spaces_serve_each_filter.Goals as goal

pub returns-clause-each : goal.returns-clause-each
returns-clause-each c = listed_serve

pub returns-clause-more : goal.returns-clause-more
returns-clause-more c = more_serve
