use Rattle.ifmap_reader.proofs.Fronts.{one_deep}
use Rattle.ifmap_reader.proofs.laws.bytes_nest_too_deep_at_one_place.Goals as goal

pub returns : goal.returns
returns c = one_deep
