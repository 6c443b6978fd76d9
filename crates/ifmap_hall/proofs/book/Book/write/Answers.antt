use Rattle.ifmap_hall.proofs.Settling.{write_keeps_balance, one_more}
use Rattle.ifmap_hall.proofs.book.Book.write.Goals as goal

pub returns-in-Ok-clause-book : goal.returns-in-Ok-clause-book
returns-in-Ok-clause-book g c =
    rw (c.push_back_reserved.ensures.items, c.reserve.ensures.items)
    (write_keeps_balance g.M.Machine.next g.M.Machine.weight_of c.args.self.now.machine c.step.new.self c.args.self.now.base
    c.args.self.now.from c.args.self.now.bytes c.args.self.now.limit c.args.self.now.heaviest c.args.weight c.args.pass c.args.event
    c.args.self.now.journal.items
    c.in-Ok.ensures.0 c.requires.weight.0 c.requires.weight.1 c.requires.room c.requires.free c.requires.book)

pub returns-in-Ok-clause-carries : goal.returns-in-Ok-clause-carries
returns-in-Ok-clause-carries g c =
    rw (c.push_back_reserved.ensures.items, c.reserve.ensures.items)
    (one_more g.M.Machine.next g.M.Machine.weight_of c.args.self.now.base c.args.self.now.from c.args.pass c.args.event
    c.args.self.now.journal.items)
