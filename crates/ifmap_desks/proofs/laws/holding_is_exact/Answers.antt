use Rattle.ifmap_desks.proofs.HoldingLaws.{tells_would_hold}
use Rattle.ifmap_desks.proofs.laws.holding_is_exact.Goals as goal

pub returns : goal.returns
returns c = tells_would_hold
