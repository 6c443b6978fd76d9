use Rattle.std.proofs.Common.{◌∙◌, ◌%◌, ◌^◌, ap, sym, subst}
use Rattle.ifmap_hall.specs.SeatViews.{ticket_of, IsWaiting}
use Rattle.ifmap_hall.specs.Plays.{TakesBook}
use Rattle.ifmap_hall.proofs.hall_asks.await_turn.Goals as goal

pub look-served-requires-clause-waits : goal.look-served-requires-clause-waits
look-served-requires-clause-waits g c = subst IsWaiting (sym c.loop.invariant.0) c.requires.waits

pub returns-then-served-ticket-clause-served : goal.returns-then-served-ticket-clause-served
returns-then-served-ticket-clause-served g c =
    let i = c.loop.invariant.0 in
    subst (λ s. TakesBook g.M.Machine.next g.M.Machine.weight_of s c.look-served.new.seat.me) (ap (λ m. m.0) i)
    (c.look-served.ensures.served (c.if-served-ticket.true ∙ c.requires.ticket ∙ sym (ap (λ m. ticket_of m.0.stage % 2 ^ 64) i)))
