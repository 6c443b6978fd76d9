use Rattle.ifmap_elem.specs.laws.CanonicalSpells.{written_spelled}
use Rattle.ifmap_elem.proofs.laws.written_bytes_spell_the_element.Goals as goal

pub returns : goal.returns
returns c = written_spelled
