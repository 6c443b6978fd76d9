use Rattle.ifmap_elem.specs.laws.CanonicalSpells.{same_when_alike, alike_when_same}
use Rattle.ifmap_elem.proofs.laws.canonical_bytes_tell_elements_apart.Goals as goal

pub returns : goal.returns
returns c = λ one other fit also. (same_when_alike one other fit also, alike_when_same one other)
