use Rattle.std.proofs.Common.{◌≡◌, ◌≤◌, ◌+◌, ◌++◌, take}
use Rattle.std.specs.List.{filter_map}
use Rattle.ifmap_region.specs.Marks.{mark_of}
use Rattle.ifmap_fresh.specs.Collected.{item_along}
use Rattle.ifmap_fresh.proofs.collecting.Looking.add_linked.Given as goal

abbrev pub invariant-loop-i : goal.invariant-loop-i
invariant-loop-i g l =
    (l.items.items ≡ l.initial.items.items ++ filter_map (item_along (g.V.View.rows l.self.links.view.now)
    (g.V.View.id_at l.self.links.view.now)
    (g.V.View.links l.self.links.view.now) l.self.links.search.now (mark_of l.self.region.marks.entries) l.number)
    (take l.i (g.V.View.links l.self.links.view.now l.number)))
    × (l.steps ≤ l.initial.steps + l.i)
