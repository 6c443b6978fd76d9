use Rattle.std.proofs.Common.{IsSome}
use Rattle.std.specs.List.{AllByRecursion}
use Rattle.slab.specs.Slab.{get}
use Rattle.ifmap_graph.specs.After.{IsPassing}
use Rattle.ifmap_graph.specs.Shelved.{list_at}
use Rattle.ifmap_graph.specs.Sides.{list_now}
use Rattle.ifmap_graph.proofs.after.first_item.Given as goal

abbrev pub invariant-loop-item : goal.invariant-loop-item
invariant-loop-item l =
    (goal.iterator-loop-item).can_next l.item-iterator
    × (goal.iterator-loop-item).is_finite l.item-iterator
    × AllByRecursion (λ e. IsSome (get l.slots e.1)) l.item-iterator
    × IsPassing (λ at. list_at list_now (get l.slots at)) l.initial.item-iterator l.item-iterator
