use Rattle.ifmap_graph.proofs.Shelving.{nothing_placed}
use Rattle.ifmap_graph.proofs.shelves.Shelves.new.Goals as goal

pub returns-clause-shelved : goal.returns-clause-shelved
returns-clause-shelved c = rw c.new.ensures.empty (nothing_placed _)
