use Rattle.std.proofs.Common.{◌≡◌, ◌++◌, ◌||◌, take}
use Rattle.ifmap_fresh.specs.Fresh.{is_looked_at}
use Rattle.ifmap_delta.specs.Touched.{planned_items}
use Rattle.ifmap_delta.proofs.touched.add_planned.Given as goal

abbrev pub invariant-loop-i : goal.invariant-loop-i
invariant-loop-i g l =
    l.items.items ≡ l.initial.items.items ++ planned_items (λ x. is_looked_at (g.G.View.rows l.before.view.now) l.before.search.now x
    || is_looked_at (g.D.View.rows l.after.view.now) l.after.search.now x) (take l.i l.changes)
