use Rattle.std.proofs.Common.{◌≡◌, ◌≤◌, ◌+◌, ◌++◌, map, take, sum_by}
use Rattle.ifmap_region.specs.Marks.{mark_of, mark_over}
use Rattle.ifmap_delta.specs.SeenViews.{view_seen}
use Rattle.ifmap_delta.specs.Touched.{looked_along, moved_items}
use Rattle.ifmap_delta.proofs.touched.add_moved.Given as goal

abbrev pub invariant-loop-i : goal.invariant-loop-i
invariant-loop-i g l =
    let new = view_seen g.D.View.rows g.D.View.id_at g.D.View.links l.side.view.now
    in let mark = mark_of l.side.marks.now.marks.entries
    in (l.items.items ≡ l.initial.items.items ++ moved_items new l.side.search.now mark (mark_over l.patch mark)
    (take l.i (map (λ e. e.0) l.patch)))
    × (l.steps ≤ l.initial.steps + sum_by (λ v. looked_along new l.side.search.now v (mark v) (mark_over l.patch mark v))
    (take l.i (map (λ e. e.0) l.patch)))
