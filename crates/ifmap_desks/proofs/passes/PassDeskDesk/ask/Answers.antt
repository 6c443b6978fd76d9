-- What the hall answers is what the desk tells.
use Rattle.std.proofs.Common.{refl, map, Some, sym, subst, take, drop}
use Rattle.std.proofs.Math.Logic.{∥∥₁_map}
use Rattle.ifmap_desks.specs.Answers.{CountsAnswer}
use Rattle.ifmap_desks.specs.Calls.{calls_from, plain_call}
use Rattle.ifmap_desks.specs.Machines.{core_next}
use Rattle.ifmap_desks.proofs.PassTurns.{fits, gains}
use Rattle.ifmap_desks.proofs.Recalling.{recalls, used_up}
use Rattle.ifmap_desks.proofs.TellingTurns.{tells_plain}
use Rattle.ifmap_hall.specs.Passes.{pass_number, view_of}
use Rattle.ifmap_hall.specs.Sights.{run}
use Rattle.ifmap_hall.specs.declared.book.Asked.{Asked}
use Rattle.ifmap_dialogue.specs.ifmap_machine.Agreeing.{Agrees}
use Rattle.ifmap_dialogue.specs.ifmap_machine.Since.{AgreesFrom}
use Rattle.ifmap_dialogue.specs.ifmap_machine.declared.events.Answer.{Answer}
use Rattle.ifmap_dialogue.specs.ifmap_machine.Events.{Event}
use Rattle.ifmap_dialogue.specs.ifmap_machine.State.{State}
use Rattle.ifmap_desks.proofs.passes.PassDeskDesk.ask.Goals as goal

pub returns : goal.returns
returns g c =
    let desk = c.args.self.now in
    let v = view_of desk.pass.now in
    let w = view_of c.ask-asked.new.pass in
    let e = c.ask-asked.ensures in
    let fit = c.from_event.result in
    let given = c.ask-asked.result in
    record {
      tells = tells_plain (Some (map plain_call v.said)) (Some (map plain_call w.said)) (Some v.turns) (Some w.turns) desk.counts
          c.count.new.self desk.hall.now desk.hall.now desk.pass.ghost_name desk.pass.ghost_name c.args.event fit c.from_event.ensures given
          c.plain_answer-answer.result c.plain_answer-answer.ensures (gains v w (pass_number desk.pass.now) fit given e.answered)
          (v.turns, refl, e.took.turns) c.count.ensures refl refl
          (fits v w (pass_number desk.pass.now) fit c.holding_is_exact.ensures c.answers_fit_events.ensures given e.answered);
      number = e.number;
      parts = e.parts;
      carries = e.carries;
      took = e.took;
      answered = record {
        asked = fit;
        is_event = c.from_event.ensures;
        given = given;
        is_plain = c.plain_answer-answer.ensures;
        answered = e.answered;
        from_base = e.from_base;
      };
      agrees = λ ttl opens. subst (λ (s : State). Agrees ttl (calls_from s w.history.log)) (sym opens)
          (c.clients_agree_in_every_log.ensures.agrees ttl w.history.log);
      entries_agree = λ ttl opens.
          subst
          (λ (s : State). AgreesFrom (run core_next (record { core = s }) (take w.history.from w.history.log)).core
          (calls_from (run core_next (record { core = s }) (take w.history.from w.history.log)).core (drop w.history.from w.history.log)))
          (sym opens)
          (c.clients_agree_in_every_log.ensures.since ttl (take w.history.from w.history.log) (drop w.history.from w.history.log));
    }

pub invariant_of-self-clause-recalls : goal.invariant_of-self-clause-recalls
invariant_of-self-clause-recalls g c =
    let e = c.ask-asked.ensures in
    ∥∥₁_map c.args.self.now.recalls
    (recalls (view_of c.args.self.now.pass.now) (view_of c.ask-asked.new.pass) e.took
    (pass_number c.args.self.now.pass.now) c.from_event.result
    c.ask-asked.result e.answered)

pub invariant_of-self-clause-used_up : goal.invariant_of-self-clause-used_up
invariant_of-self-clause-used_up g c =
    let e = c.ask-asked.ensures in
    used_up (view_of c.args.self.now.pass.now) (view_of c.ask-asked.new.pass) e.took
    (pass_number c.args.self.now.pass.now) c.from_event.result
    c.ask-asked.result c.args.self.now.counts c.count.new.self e.answered
    (subst (λ (a : Asked Event Answer). CountsAnswer a c.args.self.now.counts c.count.new.self) c.plain_answer-answer.ensures
    c.count.ensures)
    c.args.self.now.used_up
