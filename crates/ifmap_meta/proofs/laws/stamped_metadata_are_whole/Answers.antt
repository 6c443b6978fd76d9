use Rattle.ifmap_meta.specs.laws.WholeLaws.{made_is_metadata, stamped_is_whole}
use Rattle.ifmap_meta.proofs.laws.stamped_metadata_are_whole.Goals as goal

pub returns-clause-made : goal.returns-clause-made
returns-clause-made c = made_is_metadata

pub returns-clause-whole : goal.returns-clause-whole
returns-clause-whole c = stamped_is_whole
