use Rattle.std.proofs.Common.{length}
use denote.Text.{Utf8}
use denote.Shadow.{shadow}
use Rattle.ifmap_filter.specs.Progress.{filter_state}
use Rattle.ifmap_filter.specs.Reaching.{ReachesWhite}
use Rattle.ifmap_filter.proofs.parsing.read_filter.Given as goal

abbrev pub invariant-loop-rest : goal.invariant-loop-rest
invariant-loop-rest l = shadow (Utf8 l.rest) × ReachesWhite l.text l.scope (filter_state l.standing) l.rest

abbrev pub decreases-loop-rest : goal.decreases-loop-rest
decreases-loop-rest l = length l.rest
