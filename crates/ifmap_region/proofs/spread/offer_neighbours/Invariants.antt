use Rattle.std.proofs.Common.{◌≡◌, ℕ, ◌+◌, ◌<◌, ◌≤◌, ◌∷◌, Option, Some, false, List}
use Rattle.ifmap_region.specs.Layers.{layer_of, marks, Falls, Charges}
use Rattle.ifmap_region.specs.Marks.{AddsMarks}
use Rattle.ifmap_region.proofs.spread.offer_neighbours.Given as goal

abbrev pub invariant-loop-i : goal.invariant-loop-i
invariant-loop-i g l =
    let G = g.G.LinkSource in
    let layer = layer_of G.seen l.basis in
    let then = layer l.initial.rows.entries in
    let now = layer l.rows.entries in
    record {
      rows : AddsMarks l.initial.rows.entries l.rows.entries;
      offered : (j w : ℕ) → j < l.i → now.graph.link l.number j ≡ Some w → (k : ℕ) × (k ≤ l.next) × (marks now w ≡ Some k);
      falls : (start level : ℕ) (rest : List ℕ) (seeds : List (ℕ × ℕ)) → l.next ≡ level + 1 → level < now.top
          → now.graph.terminal l.number ≡ false
          → Falls then start seeds level (l.number ∷ rest) l.initial.queue.items → Falls now start seeds level (l.number ∷ rest)
          l.queue.items;
      charged : (start level before owed : ℕ) (rest : List ℕ) (seeds : List (ℕ × ℕ)) (first : ℕ → Option ℕ) → l.next ≡ level + 1
          → level < now.top → now.graph.terminal l.number ≡ false
          → Falls then start seeds level (l.number ∷ rest) l.initial.queue.items
          → Charges then start first l.next before owed l.initial.queue.items
          → Charges now start first l.next before owed l.queue.items;
      steps : l.steps ≤ l.initial.steps + l.i;
    }
