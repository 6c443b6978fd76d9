use Rattle.std.proofs.Common.{◌∙◌, ◌%◌, ◌^◌, ap, sym}
use Rattle.std.specs.Prelude.{Some}
use Rattle.ifmap_hall.specs.SeatViews.{ticket_of, with_book}
use Rattle.ifmap_hall.proofs.Sighting.{found_carries}
use Rattle.ifmap_hall.proofs.Taking.{waits_drawn, lies_first, finds_book}
use Rattle.ifmap_hall.proofs.hall.Hall.close.Goals as goal

pub await_turn-requires-clause-waits : goal.await_turn-requires-clause-waits
await_turn-requires-clause-waits g c =
    let d = c.draw-ticket.ensures.ticket in waits_drawn c.args.pass.seat.me c.draw-ticket.new.seat.me d.0 c.args.pass.rests d.2

pub await_turn-requires-clause-ticket : goal.await_turn-requires-clause-ticket
await_turn-requires-clause-ticket g c = let d = c.draw-ticket.ensures.ticket in d.1 ∙ sym (ap (λ m. ticket_of m.0.stage % 2 ^ 64) d.2)

pub exchange-requires : goal.exchange-requires
exchange-requires g c =
    let s = c.await_turn.ensures.served in (
      c.await_turn.ensures.own.0 ∙ c.draw-ticket.ensures.own.0
          ∙ c.requires.hall.table,
      (Some s.1, lies_first c.await_turn.new.seat.me (with_book c.draw-ticket.new.seat.me.0 s.0) s.1 s.3),
    )

pub returns-clause-whole : goal.returns-clause-whole
returns-clause-whole g c =
    let d = c.draw-ticket.ensures.ticket in
    let s = c.await_turn.ensures.served in (
      s.0,
      finds_book g.M.Machine.next g.M.Machine.weight_of c.args.pass.seat.me c.draw-ticket.new.seat.me c.await_turn.new.seat.me
          d.0 c.exchange.result c.in-Some.book d.2 s c.exchange.ensures.2 c.in-Some.is,
    )

pub returns-clause-carries : goal.returns-clause-carries
returns-clause-carries g c =
    let found = returns-clause-whole g c in
    found_carries g.M.Machine.next g.M.Machine.weight_of c.args.pass.seat.me.0.view found.0 c.in-Some.book c.args.pass.sound.inside
    found.1

pub returns-clause-book : goal.returns-clause-book
returns-clause-book g c = (returns-clause-whole g c).1.book.book

pub returns-clause-limit : goal.returns-clause-limit
returns-clause-limit g c = (returns-clause-whole g c).1.book.limit

pub returns-clause-heaviest : goal.returns-clause-heaviest
returns-clause-heaviest g c = (returns-clause-whole g c).1.book.heaviest
