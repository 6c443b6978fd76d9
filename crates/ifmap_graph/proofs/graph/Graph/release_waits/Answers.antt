use Rattle.ifmap_graph.specs.Out.{items_changed}
use Rattle.ifmap_graph.proofs.Own.{key_kept}
use Rattle.ifmap_graph.proofs.Released.{AreReleased, are_released}
use Rattle.ifmap_graph.proofs.Settled.{inside_of, bare_from, waited_from}
use Rattle.ifmap_graph.proofs.graph.Graph.release_waits.Goals as goal
use Rattle.ifmap_graph.proofs.graph.Graph.release_waits.Goals.{After-release_items}

-- what the call did
items_are_released : (c : After-release_items) → AreReleased (items_changed c.args.changes.now) c.args.self.now
    (inside_of c.release_items.new.names c.release_items.new.shelves c.self.inside.links.items)
items_are_released c =
    let q = rw (← c.self.view_is) at c.requires
    in are_released c.self.inside.names c.release_items.new.names c.self.inside.shelves c.release_items.new.shelves
    c.self.inside.links.items (items_changed c.args.changes.now) c.release_items.ensures.less c.self.invariant.placed
    c.release_items.ensures.waits c.release_items.ensures.filled c.self.view_is q.still

pub release_items-requires-clause-inside : goal.release_items-requires-clause-inside
release_items-requires-clause-inside c = (c.self.inside.links.items, c.self.invariant)

pub release_items-requires-clause-bare : goal.release_items-requires-clause-bare
release_items-requires-clause-bare c =
    let q = rw (← c.self.view_is) at c.requires
    in bare_from c.self.inside.names c.self.inside.shelves c.self.inside.links.items c.self.invariant.placed q.still

pub release_items-requires-clause-waits : goal.release_items-requires-clause-waits
release_items-requires-clause-waits c =
    let q = rw (← c.self.view_is) at c.requires
    in waited_from c.self.inside.names c.self.inside.shelves c.self.inside.links.items (items_changed c.args.changes.now) q.waits

pub invariant_of-self : goal.invariant_of-self
invariant_of-self c = c.release_items.ensures.less.inside c.self.inside.links.items c.self.invariant

pub returns-clause-now : goal.returns-clause-now
returns-clause-now c = (items_are_released (goal.at.returns-clause-now c).After-release_items).now

pub returns-clause-next : goal.returns-clause-next
returns-clause-next c = (items_are_released (goal.at.returns-clause-next c).After-release_items).next

pub returns-clause-done : goal.returns-clause-done
returns-clause-done c =
    let released = items_are_released (goal.at.returns-clause-done c).After-release_items
    in record {
      still = released.still;
      numbers = rw (← c.self.view_is)
          (key_kept c.release_items.new.names c.self.inside.names c.release_items.ensures.less.named
          c.bytes_tell_identifiers_apart.ensures
          (c.release_items.ensures.less.inside c.self.inside.links.items c.self.invariant).keys c.self.invariant.keys);
      own = released.own;
      waits = released.waits;
      lean = released.lean;
    }

pub returns-clause-stay : goal.returns-clause-stay
returns-clause-stay c = (items_are_released (goal.at.returns-clause-stay c).After-release_items).stay

pub returns-clause-backs : goal.returns-clause-backs
returns-clause-backs c = (items_are_released (goal.at.returns-clause-backs c).After-release_items).backs
