use Rattle.ifmap_meta.specs.laws.WholeLaws.{metadata_is_made}
use Rattle.ifmap_meta.proofs.laws.metadata_are_made_of_their_element.Goals as goal

pub returns : goal.returns
returns c = metadata_is_made
