use Rattle.std.proofs.Common.{length}
use Rattle.ifmap_lexer.proofs.AssignmentLaws.{AreReadSoFar}
use Rattle.ifmap_lexer.proofs.tags.assignments_of.Given as goal

abbrev pub invariant-all : goal.invariant-all
invariant-all l = AreReadSoFar l.bytes l.made.items l.rest

abbrev pub decreases-all : goal.decreases-all
decreases-all l = length l.rest
