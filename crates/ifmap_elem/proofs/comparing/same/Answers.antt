use Rattle.ifmap_elem.specs.laws.CanonicalSpells.{tells_apart}
use Rattle.ifmap_elem.proofs.comparing.same.Goals as goal

pub returns-clause-canonical : goal.returns-clause-canonical
returns-clause-canonical c = tells_apart c.args.a.now c.args.b.now c.same_element.result c.same_element.ensures
