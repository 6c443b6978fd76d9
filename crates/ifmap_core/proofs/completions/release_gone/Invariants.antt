use Rattle.std.proofs.Common.{◌≡◌}
use Rattle.ifmap_core.proofs.Releasing.{ReleasesSoFar}
use Rattle.ifmap_core.proofs.completions.release_gone.Given as goal
use Rattle.ifmap_subscribes.specs.ifmap_graph.Seen.{StaysLean, rows_now}
use Rattle.ifmap_subscribes.specs.Renamings.{KeepsNumbered}

abbrev pub invariant-loop-at : goal.invariant-loop-at
invariant-loop-at l = record {
  steady : ReleasesSoFar l.gone l.standing l.at l.initial.graph l.graph;
  rows : rows_now l.graph ≡ rows_now l.initial.graph;
  lean : StaysLean l.initial.graph l.graph;
  kept : KeepsNumbered l.initial.graph l.graph;
}
