use Rattle.ifmap_heads.proofs.WrittenAnswers.{body_is_read_back, status_is_read_back}
use Rattle.ifmap_heads.proofs.laws.written_answers_are_read.Goals as goal

pub returns-clause-body : goal.returns-clause-body
returns-clause-body c = body_is_read_back

pub returns-clause-other : goal.returns-clause-other
returns-clause-other c = status_is_read_back
