use Rattle.ifmap_desks.proofs.Recalling.{silent_recalls}
use Rattle.ifmap_desks.proofs.laws.silent_passes_recall.Goals as goal

pub returns : goal.returns
returns c = silent_recalls
