use Rattle.ifmap_hall.proofs.CarryingOn.{carries-through}
use Rattle.ifmap_hall.proofs.carrying.carries_through.Goals as goal

pub returns : goal.returns
returns g c p q r a b = carries-through g.M.Machine.next p q r a b
