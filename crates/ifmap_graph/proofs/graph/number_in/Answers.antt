use Rattle.std.proofs.Common.{refl}
use Rattle.ifmap_graph.proofs.Insides.{names_by}
use Rattle.ifmap_graph.proofs.graph.number_in.Goals as goal

pub returns-in-Some-clause-found : goal.returns-in-Some-clause-found
returns-in-Some-clause-found c = c.tell_number.ensures

pub returns-in-Some-clause-only : goal.returns-in-Some-clause-only
returns-in-Some-clause-only c = λ v e. c.in-Some.ensures.only v (names_by c.args.names.now v c.args.id.now c.args.id.now e refl)

pub returns-in-None-clause-only : goal.returns-in-None-clause-only
returns-in-None-clause-only c = λ v e. c.in-None.ensures.only v (names_by c.args.names.now v c.args.id.now c.args.id.now e refl)
