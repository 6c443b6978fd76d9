use Rattle.std.proofs.Common.{rules, ◌≡◌, ◌-◌, ◌^◌, ◌<◌, false}
use Rattle.ifmap_hall.specs.Books.{sight_of, end_of_book}
use Rattle.ifmap_hall.proofs.CarryingOn.{carries-through}
use Rattle.ifmap_hall.proofs.Settling.{wanting_on}
use Rattle.ifmap_hall.proofs.book.Book.turn.Goals as goal

pub returns-clause-carries : goal.returns-clause-carries
returns-clause-carries g c =
    carries-through g.M.Machine.next (sight_of c.args.self.now) (sight_of c.make_room.new.self)
    (sight_of c.write.new.self) c.make_room.ensures.settles.carries c.write.ensures.carries

pub returns-clause-no_memory : goal.returns-clause-no_memory
returns-clause-no_memory g c =
    let b = c.args.self.now in
    wanting_on g.M.Machine.next g.M.Machine.weight_of b c.make_room.new.self c.write.new.self c.args.event
    (end_of_book b < 2 ^ 64 - 1) (g.M.Machine.holds_on b.machine c.args.event ≡ false) c.write.result
    c.make_room.ensures.settles (search rules) (search rules) c.write.ensures.no_memory
