use Rattle.ifmap_meta.specs.laws.StampLaws.{stamps_stay}
use Rattle.ifmap_meta.proofs.laws.stamped_elements_have_their_stamps_alone.Goals as goal

pub returns : goal.returns
returns c = stamps_stay
