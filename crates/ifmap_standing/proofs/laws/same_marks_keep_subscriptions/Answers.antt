use Rattle.ifmap_standing.proofs.Numbering.{kept_settled, kept_the_same}
use Rattle.ifmap_standing.proofs.laws.same_marks_keep_subscriptions.Goals as goal

pub returns-clause-same : goal.returns-clause-same
returns-clause-same c = λ g old new e. kept_the_same g old new e.search e.size e.marks

pub returns-clause-settled : goal.returns-clause-settled
returns-clause-settled c = kept_settled
