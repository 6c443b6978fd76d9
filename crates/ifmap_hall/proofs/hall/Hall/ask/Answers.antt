use Rattle.ifmap_hall.proofs.Sighting.{turn_carries, answers_from_base}
use Rattle.ifmap_hall.proofs.hall.Hall.ask.Goals as goal

pub returns-clause-carries : goal.returns-clause-carries
returns-clause-carries g c =
    turn_carries g.M.Machine.next c.args.pass.now.seat.me.0.view c.ask_seat.new.seat.me.0.view c.args.pass.now.sound.inside
    c.ask_seat.ensures.took

pub returns-clause-from_base : goal.returns-clause-from_base
returns-clause-from_base g c =
    answers_from_base g.M.Machine.next g.M.Machine.holds_on g.M.Machine.reply c.args.pass.now.seat.me.0.view c.ask_seat.new.seat.me.0.view
    c.args.pass.now.number c.args.event c.ask_seat.result
    c.ask_seat.ensures.took c.ask_seat.ensures.answered
