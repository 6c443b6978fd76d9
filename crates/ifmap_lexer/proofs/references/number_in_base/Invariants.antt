use Rattle.ifmap_lexer.proofs.NumberLaws.{Reads}
use Rattle.ifmap_lexer.proofs.references.number_in_base.Given as goal

abbrev pub invariant-loop-digit : goal.invariant-loop-digit
invariant-loop-digit l = Reads l.base l.digits l.digit-index l.number
