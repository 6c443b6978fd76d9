use Rattle.ifmap_graph.proofs.Planned.{Drafting}
use Rattle.ifmap_graph.proofs.drafting.draft_changes.Given as goal

abbrev pub invariant-loop-change : goal.invariant-loop-change
invariant-loop-change l = Drafting l.changes l.initial.shelves l.shelves l.change-index
