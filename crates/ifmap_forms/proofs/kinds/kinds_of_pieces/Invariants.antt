use Rattle.std.proofs.Common.{length}
use Rattle.ifmap_forms.specs.Gathering.{IsRestAfter}
use Rattle.ifmap_lemmas.specs.Separated.{comma_parts}
use Rattle.ifmap_forms.specs.Values.{kinds_check}
use Rattle.ifmap_forms.proofs.kinds.kinds_of_pieces.Given as goal

abbrev pub invariant-loop-piece : goal.invariant-loop-piece
invariant-loop-piece l = IsRestAfter (kinds_check (comma_parts l.fn.text)) (kinds_check (comma_parts l.rest)) l.kinds.items

abbrev pub decreases-loop-piece : goal.decreases-loop-piece
decreases-loop-piece l = length l.rest
