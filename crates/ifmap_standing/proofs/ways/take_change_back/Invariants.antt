use Rattle.ifmap_standing.proofs.Places.{Down}
use Rattle.ifmap_standing.proofs.Undoing.{IsUndone}
use Rattle.ifmap_standing.proofs.ways.take_change_back.Given as goal

abbrev pub invariant-loop-way : goal.invariant-loop-way
invariant-loop-way l = Down IsUndone (λ x before k. k) l.fn.ways l.fn.standing l.left.items l.standing

abbrev pub decreases-loop-way : goal.decreases-loop-way
decreases-loop-way l = goal.left-loop-way l
