use Rattle.std.proofs.Common.{◌≡◌, ℕ, ◌+◌, ◌<◌, ◌≤◌, ◌∷◌, List, Some}
use Rattle.std.specs.Prelude.{IsSome}
use Rattle.ifmap_region.specs.declared.flips.Flip.{Flip}
use Rattle.ifmap_region.specs.Layers.{layer_of, marks, IsUncut, IsUnheld, IsBeingCut}
use Rattle.ifmap_region.specs.Marks.{row_of}
use Rattle.ifmap_region.proofs.lose.follow.Given as goal

abbrev pub invariant-loop-i : goal.invariant-loop-i
invariant-loop-i g l =
    let G = g.G.LinkSource in
    let layer = layer_of G.seen l.basis in
    let then = layer l.initial.rows.entries in
    let now = layer l.rows.entries in
    record {
      keeps : (flips : List Flip) (start before spent : ℕ) (gone rest : List ℕ) (seeds : List (ℕ × ℕ)) → IsUncut then flips start
          → IsUnheld then l.number l.level
          → IsBeingCut then flips start gone seeds l.level (l.number ∷ rest) l.initial.queue.items before spent
          → IsBeingCut now flips start gone seeds l.level (l.number ∷ rest) l.queue.items before spent;
      same : (x : ℕ) → marks now x ≡ marks then x;
      followed : (j w : ℕ) → j < l.i → now.graph.link l.number j ≡ Some w → now.first w ≡ Some (l.level + 1)
          → IsSome (row_of l.rows.entries w);
      steps : l.steps ≤ l.initial.steps + l.i;
    }
