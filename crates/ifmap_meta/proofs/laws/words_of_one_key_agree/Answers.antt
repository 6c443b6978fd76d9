use Rattle.ifmap_meta.specs.laws.KeyWordLaws.{words_agree}
use Rattle.ifmap_meta.proofs.laws.words_of_one_key_agree.Goals as goal

pub returns : goal.returns
returns c = words_agree
