use Rattle.std.specs.Prelude.{length}
use Rattle.ifmap_hall.specs.Turns.{Settles, HadToGo}
use Rattle.ifmap_hall.proofs.book.Book.make_room.Given as goal

abbrev pub decreases-loop-self : goal.decreases-loop-self
decreases-loop-self g l = length l.self.journal.items

abbrev pub invariant-loop-self : goal.invariant-loop-self
invariant-loop-self g l =
    Settles g.M.Machine.next g.M.Machine.weight_of l.fn.self l.self × HadToGo g.M.Machine.weight_of l.fn.self l.self l.fn.weight
