use Rattle.std.proofs.Common.{◌≡◌, [], ◌∷◌, ◌∙◌, ◌%◌, ◌^◌, refl, ap, sym, subst}
use Rattle.std.specs.Prelude.{Some, None}
use Rattle.atomic_table.specs.Table.{rest}
use Rattle.ifmap_hall.specs.HallAsks.{TookATurn, AnsweredFromHistory, TakesTurn}
use Rattle.ifmap_hall.specs.Plays.{Gives}
use Rattle.ifmap_hall.specs.SeatViews.{taken_of, ticket_of, with_ticket, with_book, after_turn, IsAtRest}
use Rattle.ifmap_hall.proofs.Taking.{waits_drawn, lies_first, finds_book, brings_book, holds_brought, goes_on_to}
use Rattle.ifmap_hall.proofs.hall_asks.ask_seat.Given.{Over}
use Rattle.ifmap_hall.proofs.hall_asks.ask_seat.Goals as goal
use Rattle.ifmap_hall.proofs.hall_asks.ask_seat.Goals.{After-exchange-none}

pub await_turn-requires-clause-waits : goal.await_turn-requires-clause-waits
await_turn-requires-clause-waits g c =
    let d = c.draw-ticket.ensures.ticket in waits_drawn c.args.seat.now.me c.draw-ticket.new.seat.me d.0 c.requires.idle d.2

pub await_turn-requires-clause-ticket : goal.await_turn-requires-clause-ticket
await_turn-requires-clause-ticket g c = let d = c.draw-ticket.ensures.ticket in d.1 ∙ sym (ap (λ m. ticket_of m.0.stage % 2 ^ 64) d.2)

pub exchange-requires : goal.exchange-requires
exchange-requires g c =
    let s = c.await_turn.ensures.served in (
      c.await_turn.ensures.own.0 ∙ c.draw-ticket.ensures.own.0 ∙ c.requires.own,
      (Some s.1, lies_first c.await_turn.new.seat.me (with_book c.draw-ticket.new.seat.me.0 s.0) s.1 s.3),
    )

pub exchange-none-requires : goal.exchange-none-requires
exchange-none-requires g c =
    let x = c.exchange.ensures in (
      x.0 ∙ c.await_turn.ensures.own.0 ∙ c.draw-ticket.ensures.own.0 ∙ c.requires.own,
      (None, ap (λ m. m.1) x.3 ∙ ap (λ r. (0, None) ∷ r) (sym (ap (λ m. rest m.1) x.3))),
    )

-- what the turn of the book that was found tells
turn_told : (g : Over) (c : After-exchange-none g)
    → TakesTurn g.M.Machine.next g.M.Machine.weight_of g.M.Machine.holds_on g.M.Machine.reply c.args.seat.now.me.0.view
    c.await_turn.ensures.served.0 c.turn_of-answer.new.book
    c.args.number c.args.event c.turn_of-answer.result
turn_told g c =
    let d = c.draw-ticket.ensures.ticket in
    let s = c.await_turn.ensures.served in
    let m = c.args.seat.now.me in
    c.turn_of-answer.ensures m.0.view s.0
    (finds_book g.M.Machine.next g.M.Machine.weight_of m c.draw-ticket.new.seat.me c.await_turn.new.seat.me d.0 c.exchange.result
    c.in-Some.book d.2 s
    c.exchange.ensures.2 c.in-Some.is)

-- the seat with the book that the turn left
brought : (g : Over) (c : After-exchange-none g)
    → c.exchange-none.new.seat.me ≡ (
      with_book (with_ticket c.args.seat.now.me.0 c.draw-ticket.ensures.ticket.0) c.await_turn.ensures.served.0,
      (0, Some c.turn_of-answer.new.book) ∷ [],
    )
brought g c =
    let d = c.draw-ticket.ensures.ticket in
    brings_book g.M.Machine.next g.M.Machine.weight_of c.args.seat.now.me c.draw-ticket.new.seat.me c.await_turn.new.seat.me
    c.exchange.new.seat.me c.exchange-none.new.seat.me d.0 c.turn_of-answer.new.book d.2 c.await_turn.ensures.served
    c.exchange.ensures.3 c.exchange-none.ensures.3

pub pass_on-requires-clause-holds : goal.pass_on-requires-clause-holds
pass_on-requires-clause-holds g c =
    holds_brought c.exchange-none.new.seat.me c.args.seat.now.me.0 c.draw-ticket.ensures.ticket.0 c.await_turn.ensures.served.0
    c.turn_of-answer.new.book c.requires.idle.part
    (brought g (goal.at.pass_on-requires-clause-holds g c).After-exchange-none)

pub pass_on-requires-clause-book : goal.pass_on-requires-clause-book
pass_on-requires-clause-book g c =
    let place = (goal.at.pass_on-requires-clause-book g c).After-exchange-none in
    let b = c.turn_of-answer.new.book in (
      b,
      ap (λ p. p.1) (brought g place),
      subst (λ p. Gives g.M.Machine.next g.M.Machine.weight_of p.0.view.terms (taken_of p.0.stage) b) (sym (brought g place))
          (turn_told g place).gives,
    )

-- the seat after the turn
seat_after : (g : Over) (c : goal.Joined-none g)
    → c.pass_on.new.seat.me ≡ (
      after_turn g.M.Machine.next g.M.Machine.reply
          (with_book (with_ticket c.args.seat.now.me.0 c.draw-ticket.ensures.ticket.0) c.await_turn.ensures.served.0)
          c.turn_of-answer.new.book,
      [],
    )
seat_after g c =
    goes_on_to g.M.Machine.next g.M.Machine.reply c.exchange-none.new.seat.me c.pass_on.new.seat.me
    (with_book (with_ticket c.args.seat.now.me.0 c.draw-ticket.ensures.ticket.0) c.await_turn.ensures.served.0) c.turn_of-answer.new.book
    (brought g (goal.at.returns-clause-took g c).After-exchange-none)
    c.pass_on.ensures.passed

pub returns-clause-rests : goal.returns-clause-rests
returns-clause-rests g c =
    subst (λ n. IsAtRest n × (n.0.parts ≡ c.args.seat.now.me.0.parts)) (sym (seat_after g c))
    (record { slots = refl; idle = refl; part = c.requires.idle.part }, refl)

pub returns-clause-took : goal.returns-clause-took
returns-clause-took g c = subst (λ n. TookATurn c.args.seat.now.me.0.view n.0.view) (sym (seat_after g c))
    (turn_told g (goal.at.returns-clause-took g c).After-exchange-none).took

pub returns-clause-answered : goal.returns-clause-answered
returns-clause-answered g c =
    subst (λ n. AnsweredFromHistory g.M.Machine.next g.M.Machine.holds_on g.M.Machine.reply c.args.seat.now.me.0.view n.0.view c.args.number
    c.args.event c.turn_of-answer.result)
    (sym (seat_after g c)) (turn_told g (goal.at.returns-clause-answered g c).After-exchange-none).answered
