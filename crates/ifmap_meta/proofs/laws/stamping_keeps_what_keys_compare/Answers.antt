use Rattle.ifmap_meta.specs.laws.StampLaws.{cardinality_stays, content_stays}
use Rattle.ifmap_meta.proofs.laws.stamping_keeps_what_keys_compare.Goals as goal

pub returns-clause-content : goal.returns-clause-content
returns-clause-content c = content_stays

pub returns-clause-cardinality : goal.returns-clause-cardinality
returns-clause-cardinality c = cardinality_stays
