use Rattle.ifmap_fresh.proofs.Meaning.{keeps_walks}
use Rattle.ifmap_fresh.proofs.laws.numbers_keep_walks.Goals as goal

pub returns : goal.returns
returns c = λ rows id_at links s start view here. keeps_walks rows id_at links s view start here
