use Rattle.std.proofs.Common.{◌≡◌, ℕ, ◌+◌, ◌<◌, ◌≤◌, Some}
use Rattle.std.specs.Prelude.{IfSome}
use Rattle.ifmap_region.specs.Links.{links_of}
use Rattle.ifmap_region.specs.Marks.{mark_of, mark_over}
use Rattle.ifmap_region.specs.Seeds.{IsNext}
use Rattle.ifmap_region.proofs.cut.lowest_level.Given as goal

abbrev pub invariant-loop-i : goal.invariant-loop-i
invariant-loop-i g l = record {
  only : IfSome l.least (λ k. (u : ℕ) × links_of (g.G.LinkSource.seen l.basis.graph.now) l.number u
      × IsNext (g.G.LinkSource.seen l.basis.graph.now).terminal l.basis.top
      (mark_over l.rows.entries (mark_of l.basis.base.now.entries)) u k);
  least : (j u k : ℕ) → j < l.i → (g.G.LinkSource.seen l.basis.graph.now).link l.number j ≡ Some u
      → IsNext (g.G.LinkSource.seen l.basis.graph.now).terminal l.basis.top
      (mark_over l.rows.entries (mark_of l.basis.base.now.entries)) u k
      → (m : ℕ) × (m ≤ k) × (l.least ≡ Some m);
  steps : l.steps ≤ l.initial.steps + l.i;
}
