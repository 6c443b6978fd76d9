use Rattle.ifmap_filter.proofs.Deciding.{one_filter}
use Rattle.ifmap_filter.proofs.laws.text_is_one_filter.Goals as goal

pub returns : goal.returns
returns c = one_filter
