use Rattle.std.proofs.Common.{◌≡◌, ◌≤◌, ◌+◌, map, length, take, sum_by}
use Rattle.ifmap_region.specs.Marks.{mark_of}
use Rattle.ifmap_fresh.specs.Collected.{items_of_numbers}
use Rattle.ifmap_fresh.proofs.collecting.Looking.collect.Given as goal

abbrev pub invariant-loop-i : goal.invariant-loop-i
invariant-loop-i g l =
    (l.items.items ≡ items_of_numbers (g.V.View.rows l.self.links.view.now) (g.V.View.id_at l.self.links.view.now)
    (g.V.View.links l.self.links.view.now)
    l.self.links.search.now (mark_of l.self.region.marks.entries) (take l.i (map (λ e. e.0) l.self.region.marks.entries)))
    × (l.steps ≤ l.initial.steps + sum_by (λ v. length (g.V.View.links l.self.links.view.now v))
    (take l.i (map (λ e. e.0) l.self.region.marks.entries)))
