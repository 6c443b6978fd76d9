use Rattle.std.proofs.Common.{refl}
use Rattle.ifmap_standing.specs.Ways.{IsWayGivenUp}
use Rattle.ifmap_standing.proofs.Places.{Down}
use Rattle.ifmap_standing.proofs.ways.settle.Given as goal

abbrev pub invariant-loop-way : goal.invariant-loop-way
invariant-loop-way l = Down IsWayGivenUp (λ x. refl) l.fn.ways l.fn.standing l.left.items l.standing

abbrev pub decreases-loop-way : goal.decreases-loop-way
decreases-loop-way l = goal.left-loop-way l
