use Rattle.std.proofs.Common.{sym}
use Rattle.ifmap_graph.proofs.Insides.{number_found}
use Rattle.ifmap_graph.proofs.graph.tell_number.Goals as goal

pub returns : goal.returns
returns c =
    number_found c.args.names.now c.args.number c.args.id.now c.in-Some.key.now c.requires (sym c.in-Some.ensures.key) c.tell_apart.ensures
