use Rattle.ifmap_elem.specs.laws.NamedElements.{named_have_scopes, scopes_are_named}
use Rattle.ifmap_elem.proofs.laws.named_elements_have_scopes.Goals as goal

pub returns-clause-have : goal.returns-clause-have
returns-clause-have c = named_have_scopes

pub returns-clause-named : goal.returns-clause-named
returns-clause-named c = scopes_are_named
