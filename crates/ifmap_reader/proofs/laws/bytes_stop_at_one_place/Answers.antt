use Rattle.ifmap_reader.proofs.Fronts.{one_stop}
use Rattle.ifmap_reader.proofs.laws.bytes_stop_at_one_place.Goals as goal

pub returns : goal.returns
returns c = one_stop
