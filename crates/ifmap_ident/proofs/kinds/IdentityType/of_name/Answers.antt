use Rattle.ifmap_ident.proofs.KindLaws.{no_type, type_found}
use Rattle.ifmap_ident.proofs.kinds.IdentityType.of_name.Goals as goal

pub returns-clause-found : goal.returns-clause-found
returns-clause-found c = type_found c.args.name.now c.type_of.result c.type_of.ensures

pub returns-clause-none : goal.returns-clause-none
returns-clause-none c = no_type c.args.name.now c.type_of.result c.type_of.ensures
