use Rattle.std.proofs.Common.{◌≡◌, ◌+◌, drop}
use Rattle.ifmap_ident.specs.declared.items.Item.{Item}
use Rattle.ifmap_graph.specs.Out.{items_changed}
use Rattle.ifmap_graph.specs.Releasing.{AreFilled, IsLess}
use Rattle.ifmap_graph.specs.Waits.{times_in, waits_on}
use Rattle.ifmap_graph.proofs.releasing.release_items.Given as goal

abbrev pub invariant-loop-change : goal.invariant-loop-change
invariant-loop-change l =
    IsLess l.initial.names l.names l.initial.shelves l.shelves
    × ((x : Item) → times_in (drop l.change-index (items_changed l.changes)) x + waits_on l.initial.shelves x
    ≡ times_in (items_changed l.changes) x + waits_on l.shelves x)
    × (AreFilled l.initial.shelves → AreFilled l.shelves)
