use Rattle.ifmap_heads.proofs.AnswersOnce.{one_way}
use Rattle.ifmap_heads.proofs.laws.answers_are_read_in_one_way.Goals as goal

pub returns : goal.returns
returns c = one_way
