use Rattle.ifmap_elem.specs.laws.Resolving.{resolves_as_declared}
use Rattle.ifmap_elem.proofs.laws.declarations_tell_the_scopes.Goals as goal

pub returns : goal.returns
returns c = resolves_as_declared
