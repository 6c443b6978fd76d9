use Rattle.std.proofs.Common.{refl}
use Rattle.ifmap_dialogue.proofs.post_asks.first_event.Goals as goal

pub returns : goal.returns
returns g c = (c.now.result, c.now.ensures, refl)
