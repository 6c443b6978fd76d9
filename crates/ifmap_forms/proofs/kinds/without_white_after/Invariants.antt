use Rattle.std.proofs.Common.{◌≡◌, length, reverse}
use Rattle.ifmap_filter.specs.Tokens.{without_white}
use Rattle.ifmap_forms.proofs.kinds.without_white_after.Given as goal

abbrev pub invariant-loop-rest : goal.invariant-loop-rest
invariant-loop-rest l = reverse (without_white (reverse l.rest)) ≡ reverse (without_white (reverse l.fn.text))

abbrev pub decreases-loop-rest : goal.decreases-loop-rest
decreases-loop-rest l = length l.rest
