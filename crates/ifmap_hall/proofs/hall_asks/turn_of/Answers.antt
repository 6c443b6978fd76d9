use Rattle.ifmap_hall.proofs.Turning.{turn_keeps_promise}
use Rattle.ifmap_hall.proofs.hall_asks.turn_of.Goals as goal

pub returns : goal.returns
returns g c v h found =
    let e = c.turn.ensures in
    turn_keeps_promise g.M.Machine.next g.M.Machine.weight_of g.M.Machine.holds_on g.M.Machine.reply v h c.args.book.now found
    c.turn.new.self c.args.number c.args.event c.turn.result
    (record {
      book = e.book;
      carries = e.carries;
      limits = e.limits;
      done = e.done;
      held = e.held;
      spent = e.spent;
      no_memory = e.no_memory;
    })
