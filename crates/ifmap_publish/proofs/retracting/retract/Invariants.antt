use Rattle.std.proofs.Common.{length, option_copied}
use Rattle.std.specs.List.{filter}
use Rattle.ifmap_publish.proofs.Retracted.{IsSoFar, is_above}
use Rattle.ifmap_publish.proofs.retracting.retract.Given as goal

abbrev pub invariant-loop-item : goal.invariant-loop-item
invariant-loop-item g l = IsSoFar l.who (g.G.View.rows l.graph) l.changes.items (option_copied l.last) l.initial.steps l.steps

-- the attachments above the last item
abbrev pub decreases-loop-item : goal.decreases-loop-item
decreases-loop-item g l = length (filter (λ r. is_above (option_copied l.last) r.item) (g.G.View.rows l.graph))
