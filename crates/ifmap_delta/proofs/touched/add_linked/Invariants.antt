use Rattle.std.proofs.Common.{◌≡◌, ◌≤◌, ◌+◌, ◌++◌, Some, take}
use Rattle.std.specs.List.{filter_map}
use Rattle.ifmap_delta.specs.SeenViews.{view_seen}
use Rattle.ifmap_delta.specs.Touched.{link_item}
use Rattle.ifmap_delta.proofs.touched.add_linked.Given as goal

abbrev pub invariant-loop-i : goal.invariant-loop-i
invariant-loop-i g l =
    (l.items.items ≡ l.initial.items.items ++ filter_map (λ seen. link_item
    (view_seen g.V.View.rows g.V.View.id_at g.V.View.links l.links.view.now) l.links.search.now l.number
    (Some seen)) (take l.i (g.V.View.links l.links.view.now l.number)))
    × (l.steps ≤ l.initial.steps + l.i)
