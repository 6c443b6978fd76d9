use Rattle.std.proofs.Common.{refl, arith}
use Rattle.slab.specs.Slab.{get}
use Rattle.ifmap_graph.specs.Back.{KeepsShelves}
use Rattle.ifmap_graph.proofs.KeyHolds.{keys_before, keys_stay}
use Rattle.ifmap_graph.proofs.Kept.{shelves_kept}
use Rattle.ifmap_graph.proofs.Settled.{inside_of}
use Rattle.ifmap_graph.proofs.Own.{inside_released, live_key, own_released}
use Rattle.ifmap_graph.proofs.graph.Graph.release.Goals as goal
use Rattle.ifmap_graph.proofs.graph.Graph.release.Goals.{After-release}

-- the shelves and the links stay
shelves_stay : (c : After-release)
    → KeepsShelves c.args.self.now (inside_of c.release.new.self c.self.inside.shelves c.self.inside.links.items)
shelves_stay c =
    shelves_kept c.self.inside.names c.release.new.self c.self.inside.shelves c.self.inside.links.items c.self.inside.links.items
    c.self.view_is (λ v. refl) (omega arith)

pub release-requires : goal.release-requires
release-requires c = let q = rw (← c.self.view_is) at c.requires in live_key c.self.inside.names c.args.number q.0 q.2

pub invariant_of-self : goal.invariant_of-self
invariant_of-self c =
    let q = rw (← c.self.view_is) at c.requires
    in inside_released c.self.inside.names c.release.new.self (get c.self.inside.shelves.slots) c.self.inside.shelves.places.entries
    c.self.inside.links.items c.self.invariant c.args.number c.release.ensures.kept c.release.ensures.last c.release.ensures.counted
    c.release.ensures.others c.release.ensures.whole c.release.ensures.held q.0 q.1 q.2 q.3 q.4

pub returns-clause-own : goal.returns-clause-own
returns-clause-own c =
    let q = rw (← c.self.view_is) at c.requires
    in rw (← c.self.view_is)
    (own_released c.self.inside.names c.release.new.self (get c.self.inside.shelves.slots) c.self.inside.shelves.places.entries
    c.self.inside.links.items c.self.invariant c.args.number c.release.ensures.kept c.release.ensures.last c.release.ensures.counted
    c.release.ensures.others c.release.ensures.whole c.release.ensures.held q.0 q.1 q.2 q.3 q.4)

pub returns-clause-numbers : goal.returns-clause-numbers
returns-clause-numbers c =
    let q = rw (← c.self.view_is) at c.requires
    in rw (← c.self.view_is)
    (keys_before c.self.inside.names c.release.new.self c.args.number (live_key c.self.inside.names c.args.number q.0 q.2)
    c.release.ensures.kept c.release.ensures.last c.release.ensures.counted c.release.ensures.others)

pub returns-clause-stays : goal.returns-clause-stays
returns-clause-stays c =
    let q = rw (← c.self.view_is) at c.requires
    in rw (← c.self.view_is)
    (keys_stay c.self.inside.names c.release.new.self c.args.number (live_key c.self.inside.names c.args.number q.0 q.2)
    c.release.ensures.kept c.release.ensures.last c.release.ensures.counted c.release.ensures.others)

pub returns-clause-keeps : goal.returns-clause-keeps
returns-clause-keeps c = shelves_stay (goal.at.returns-clause-keeps c).After-release
