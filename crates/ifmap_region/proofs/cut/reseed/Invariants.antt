use Rattle.std.proofs.Common.{◌+◌, ◌≤◌, take, sum_by}
use Rattle.ifmap_region.specs.Links.{links_of}
use Rattle.ifmap_region.specs.Marks.{mark_of, mark_over}
use Rattle.ifmap_region.specs.Losing.{Reseeds}
use Rattle.ifmap_region.proofs.cut.reseed.Given as goal

abbrev pub invariant-loop-number : goal.invariant-loop-number
invariant-loop-number g l = record {
  seeds : Reseeds (links_of (g.G.LinkSource.seen l.basis.graph.now))
      (g.G.LinkSource.seen l.basis.graph.now).terminal l.basis.top (mark_over
      l.rows.entries (mark_of l.basis.base.now.entries)) (take l.number-index l.gone) l.seeds.items;
  steps : l.steps ≤ l.initial.steps + sum_by (g.G.LinkSource.seen l.basis.graph.now).count (take l.number-index l.gone);
}
