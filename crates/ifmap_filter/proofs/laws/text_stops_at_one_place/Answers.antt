use Rattle.ifmap_filter.proofs.Deciding.{one_place}
use Rattle.ifmap_filter.proofs.laws.text_stops_at_one_place.Goals as goal

pub returns : goal.returns
returns c = one_place
