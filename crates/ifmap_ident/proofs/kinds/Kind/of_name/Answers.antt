use Rattle.ifmap_ident.proofs.KindLaws.{kind_found, no_kind}
use Rattle.ifmap_ident.proofs.kinds.Kind.of_name.Goals as goal

pub returns-clause-found : goal.returns-clause-found
returns-clause-found c = kind_found c.args.name.now c.kind_of.result c.kind_of.ensures

pub returns-clause-none : goal.returns-clause-none
returns-clause-none c = no_kind c.args.name.now c.kind_of.result c.kind_of.ensures
