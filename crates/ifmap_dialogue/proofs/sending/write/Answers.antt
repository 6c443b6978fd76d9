use Rattle.std.proofs.Common.{ℕ, Bool, List, subst}
use Rattle.ifmap_http.specs.ifmap_heads.Messages.{answer_bytes}
use Rattle.ifmap_http.specs.Outcomes.{Sends}
use Rattle.ifmap_http.specs.Wires.{wire_seen}
use Rattle.ifmap_dialogue.specs.Answers.{closes}
use Rattle.ifmap_dialogue.specs.Wires.{GainsBytes, WritesOnce}
use Rattle.ifmap_dialogue.proofs.Writing.{rest_of, same_source, what_is_written}
use Rattle.ifmap_dialogue.proofs.sending.write.Given as given
use Rattle.ifmap_dialogue.proofs.sending.write.Goals as goal
use Rattle.ifmap_dialogue.proofs.sending.write.Goals.{After-write_answer-sent}

-- what was written, whether or not the gate was passed after it
writes : (g : given.Over) (c : After-write_answer-sent g)
    → (output : List ℕ)
    × WritesOnce (answer_bytes c.args.status c.args.body.now (closes c.args.then)) c.write_answer-sent.result output
    × GainsBytes (wire_seen g.L.Source.left g.L.Sink.held g.L.Source.faults g.L.Sink.faults c.args.wire.now)
    (wire_seen g.L.Source.left g.L.Sink.held g.L.Source.faults g.L.Sink.faults c.write_answer-sent.new.self) output
writes g c =
    let before = c.args.wire.now in
    let after = c.write_answer-sent.new.self in
    let (output, once, gained) =
    what_is_written (g.L.Sink.held before.link) (g.L.Sink.held after.link) c.write_answer-sent.result
    (answer_bytes c.args.status c.args.body.now (closes c.args.then))
    (subst (λ (b : Bool). Sends (g.L.Sink.held before.link) (g.L.Sink.held after.link) c.write_answer-sent.result
    (answer_bytes c.args.status c.args.body.now b)) c.closes.ensures c.write_answer-sent.ensures.sends) in
    let (left, reading) =
    same_source g.L.Source.left g.L.Source.faults g.L.Sink.incoming g.met.L.Link.incoming_is before.link after.link
    c.write_answer-sent.ensures.side.apart in (
      output,
      once,
      record {
        gained = gained;
        rest = rest_of g.L.Source.left g.L.Sink.held g.L.Source.faults g.L.Sink.faults before after
            c.write_answer-sent.ensures.rest left reading;
        later = c.write_answer-sent.ensures.side.later;
      },
    )

pub returns-then-eq-clause-writes : goal.returns-then-eq-clause-writes
returns-then-eq-clause-writes g c = writes g (goal.at.returns-then-eq-clause-writes g c).After-write_answer-sent

pub returns-else-eq-clause-writes : goal.returns-else-eq-clause-writes
returns-else-eq-clause-writes g c = writes g (goal.at.returns-else-eq-clause-writes g c).After-write_answer-sent
