use Rattle.ifmap_elem.specs.laws.CanonicalSpells.{canonical_spelled}
use Rattle.ifmap_elem.specs.laws.FitLaws.{nesting_arranged}
use Rattle.ifmap_elem.proofs.laws.canonical_bytes_spell_the_element.Goals as goal

pub returns : goal.returns
returns c = record { spelled = canonical_spelled; nesting = nesting_arranged }
