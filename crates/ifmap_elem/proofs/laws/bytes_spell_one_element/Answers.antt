use Rattle.ifmap_elem.specs.laws.OneReading.{one_reading}
use Rattle.ifmap_elem.proofs.laws.bytes_spell_one_element.Goals as goal

pub returns : goal.returns
returns c = one_reading
