use Rattle.ifmap_publish.proofs.Items.{apply_told, retract_told}
use Rattle.ifmap_publish.proofs.laws.items_are_told_alone.Goals as goal

pub returns-clause-published : goal.returns-clause-published
returns-clause-published c x rows by ops = apply_told x rows by ops

pub returns-clause-retracted : goal.returns-clause-retracted
returns-clause-retracted c x who rows = retract_told x who rows
