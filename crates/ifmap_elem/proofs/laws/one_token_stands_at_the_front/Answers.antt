use Rattle.ifmap_elem.specs.laws.OneToken.{one_token}
use Rattle.ifmap_elem.proofs.laws.one_token_stands_at_the_front.Goals as goal

pub returns : goal.returns
returns c = one_token
