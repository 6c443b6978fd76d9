-- What the turn of the book says is what the desk tells.
use Rattle.std.proofs.Common.{None, refl}
use Rattle.ifmap_desks.specs.Answers.{plain_answer}
use Rattle.ifmap_desks.specs.Asking.{IsTurn}
use Rattle.ifmap_desks.specs.Calls.{calls_if_known}
use Rattle.ifmap_desks.proofs.BookTurns.{fits, gains}
use Rattle.ifmap_desks.proofs.Growing.{adds}
use Rattle.ifmap_desks.proofs.TellingTurns.{tells_plain}
use Rattle.ifmap_desks.proofs.books.BookDeskDesk.ask.Goals as goal

pub returns : goal.returns
returns c =
    let desk = c.args.self.now in
    let b = desk.book in
    let b' = c.turn-asked.new.self in
    let e = c.turn-asked.ensures in
    let fit = c.from_event.result in
    let given = c.turn-asked.result in
    let turn : IsTurn b b' desk.pass fit given = record {
      carries = e.carries;
      limits = e.limits;
      few = e.few;
      done = e.done;
      held = e.held;
      spent = e.spent;
      no_memory = e.no_memory;
    } in
    record {
      tells = tells_plain (calls_if_known desk.since b)
          (calls_if_known desk.since b') None None desk.counts c.count.new.self tt tt 0 0 c.args.event fit
          c.from_event.ensures given c.plain_answer-answer.result c.plain_answer-answer.ensures
          (gains desk.since b b' fit.event (plain_answer given) e.carries.from
          (λ near. adds desk.since b b' e.carries near desk.since_then desk.in_order.state desk.pass fit given turn))
          tt c.count.ensures refl refl (fits c.holding_is_exact.ensures c.answers_fit_events.ensures b b' desk.pass fit given turn);
      number = refl;
      answered = record {
        asked = fit;
        is_event = c.from_event.ensures;
        given = given;
        is_plain = c.plain_answer-answer.ensures;
        turn = turn;
      };
    }
