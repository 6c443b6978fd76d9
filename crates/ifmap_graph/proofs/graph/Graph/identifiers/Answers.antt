use Rattle.std.proofs.Common.{◌≡◌, ℕ, Some, sym, subst}
use Rattle.ifmap_pool.specs.Holdings.{key_at}
use Rattle.ifmap_graph.specs.Counted.{AreSoMany}
use Rattle.ifmap_graph.proofs.Keys.{keys_counted}
use Rattle.ifmap_graph.proofs.Used.{are_used}
use Rattle.ifmap_graph.proofs.graph.Graph.identifiers.Goals as goal

pub returns-clause-count : goal.returns-clause-count
returns-clause-count c =
    rw (← c.self.view_is)
    (subst (λ n. AreSoMany n (λ a. (v : ℕ) × (key_at c.self.inside.names v ≡ Some a))) (sym c.len.ensures)
    (keys_counted c.self.inside.names c.self.invariant.pool))

pub returns-clause-used : goal.returns-clause-used
returns-clause-used c =
    rw (← c.self.view_is)
    (are_used c.self.inside.names c.self.inside.shelves c.self.inside.links.items c.bytes_tell_identifiers_apart.ensures c.self.invariant)
