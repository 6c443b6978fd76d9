use Rattle.std.proofs.Common.{◌≡◌, length}
use Rattle.ifmap_filter.specs.Tokens.{without_white}
use Rattle.ifmap_forms.proofs.kinds.without_white.Given as goal

abbrev pub invariant-loop-rest : goal.invariant-loop-rest
invariant-loop-rest l = without_white l.rest ≡ without_white l.fn.text

abbrev pub decreases-loop-rest : goal.decreases-loop-rest
decreases-loop-rest l = length l.rest
