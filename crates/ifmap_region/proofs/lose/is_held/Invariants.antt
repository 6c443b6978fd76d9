use Rattle.std.proofs.Common.{◌≡◌, ℕ, suc, ◌+◌, ◌<◌, ◌≤◌, false, Some}
use Rattle.ifmap_region.specs.Marks.{mark_of, mark_over}
use Rattle.ifmap_region.proofs.lose.is_held.Given as goal

abbrev pub invariant-loop-i : goal.invariant-loop-i
invariant-loop-i g l = record {
  no : (j u d : ℕ) → j < l.i → l.level ≡ suc d → (g.G.LinkSource.seen l.basis.graph.now).link l.number j ≡ Some u
      → (g.G.LinkSource.seen l.basis.graph.now).terminal u ≡ false
      → mark_over l.rows.entries (mark_of l.basis.base.now.entries) u ≡ Some d → ⊥;
  steps : l.steps ≤ l.initial.steps + l.i;
}
