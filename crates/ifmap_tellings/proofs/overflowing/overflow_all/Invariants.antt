use Rattle.ifmap_tellings.proofs.PassedLaws.{Overflowing}
use Rattle.ifmap_tellings.proofs.overflowing.overflow_all.Given as goal

abbrev pub invariant-loop-one : goal.invariant-loop-one
invariant-loop-one l = Overflowing l.standing l.fn.sessions l.sessions l.fn.tellings l.tellings l.one-index
