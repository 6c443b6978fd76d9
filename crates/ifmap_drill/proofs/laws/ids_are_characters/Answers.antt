use Rattle.ifmap_drill.proofs.SoundDrills.{kept_characters}
use Rattle.ifmap_drill.proofs.laws.ids_are_characters.Goals as goal

pub returns : goal.returns
returns c = kept_characters
