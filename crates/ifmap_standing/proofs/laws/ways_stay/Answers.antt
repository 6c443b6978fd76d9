use Rattle.ifmap_standing.proofs.Places.{stay}
use Rattle.ifmap_standing.proofs.laws.ways_stay.Goals as goal

pub returns : goal.returns
returns c = stay
