use Rattle.ifmap_fresh.proofs.Levels.{expanded_walk, reached_by_walks, walk_expanded}
use Rattle.ifmap_fresh.proofs.laws.levels_are_walks.Goals as goal

pub returns-clause-reached : goal.returns-clause-reached
returns-clause-reached c = λ rows s a graph i j. reached_by_walks c.bytes_tell_identifiers_apart.ensures rows graph.items s i a j

pub returns-clause-expanded : goal.returns-clause-expanded
returns-clause-expanded c = λ rows s a graph i j.
    let tells = c.bytes_tell_identifiers_apart.ensures
    in (expanded_walk tells rows graph.items s i a j, λ e. walk_expanded tells rows graph.items s i a e.1.0 e.0 e.1.1 e.1.2)
