use Rattle.ifmap_hall.proofs.Lying.{carries_each, in_order, shared_out}
use Rattle.ifmap_hall.proofs.carrying.the_book_lies_in_order.Goals as goal

pub returns-clause-book : goal.returns-clause-book
returns-clause-book g c terms t b k = in_order g.M.Machine.next g.M.Machine.weight_of terms t b k

pub returns-clause-carries : goal.returns-clause-carries
returns-clause-carries g c terms t b k i s sits part = carries_each g.M.Machine.next g.M.Machine.weight_of terms t b k i s sits part

pub returns-clause-places : goal.returns-clause-places
returns-clause-places g c terms t b k = shared_out g.M.Machine.next g.M.Machine.weight_of terms t b k
