-- A frame that was taken is answered, or the turn tells how the replay ends.
use Rattle.std.proofs.Common.{◌≡◌, ◌+◌, ℕ, Err, refl, sym, ap, subst, drop}
use Rattle.std.proofs.lemmas.Result.{err_from_is_err_and}
use Rattle.std.specs.Io.KnownBytes.{Appends}
use Rattle.ifmap_server.specs.declared.errors.ReplayError.TheVariants.{WriteFault}
use Rattle.ifmap_server.specs.Output.{AppendsPrefix}
use Rattle.ifmap_server.specs.Script.{BeginsFrame}
use Rattle.ifmap_server.specs.Turns.{IsFramed, frame_within}
use Rattle.ifmap_server.proofs.Endings.{turn_takes_nothing}
use Rattle.ifmap_server.proofs.replaying.Replay.turn.Goals as goal

pub returns-in_err-framed-clause-turn : goal.returns-in_err-framed-clause-turn
returns-in_err-framed-clause-turn g c =
    let p = err_from_is_err_and c.from_residual.result c.from_residual.ensures.1 in
    let replay = c.self.inside in
    rw (p.1, p.2, ← c.self.view_is)
    (turn_takes_nothing c.in_err-framed.field-0.0 g.S.Source.left g.S.Source.faults c.args.source.now c.next_frame.new.source
    (g.K.Sink.held c.args.sink.now) (g.K.Sink.faults c.args.sink.now)
    (record { state = replay.core; pending = replay.input; offset = replay.offset })
    (record { state = replay.core; pending = c.next_frame.new.input; offset = replay.offset })
    c.in_err-framed.ensures.takes (λ e. c.in_err-framed.ensures.fault (ap Err e))
    (λ e. c.in_err-framed.ensures.read (ap Err e)) (λ e. c.in_err-framed.ensures.cause (ap Err e)) refl)

pub returns-in_err-send-clause-turn : goal.returns-in_err-send-clause-turn
returns-in_err-send-clause-turn g c =
    let p = err_from_is_err_and c.from_residual-in_err-send.result c.from_residual-in_err-send.ensures.1 in
    let fault : c.in_err-send.field-0.0 ≡ WriteFault = c.in_err-send.ensures.cause in
    let framed = c.in-Some.framed in
    let pending = c.next_frame.new.input in
    let is : IsFramed c.self.inside.offset pending framed = rw c.in-Some.is at c.in_ok-framed.ensures.frame in
    let answered = rw c.pending_bytes.ensures at c.in_ok-text.ensures.answered in
    rw (p.1, p.2, fault, ← c.self.view_is) (record {
      frame = frame_within framed pending answered.meaning;
      taken = pending;
      rest = drop framed.end pending;
      takes = c.in_ok-framed.ensures.takes.taken;
      begins = is.begins answered.meaning;
      means = answered.means;
      wrote = subst (AppendsPrefix (g.K.Sink.held c.args.sink.now) (g.K.Sink.held c.send.new.sink)) answered.wrote
          c.in_err-send.ensures.bytes;
      cause = c.in_err-send.ensures.fault.failed;
    })

pub returns-clause-turn : goal.returns-clause-turn
returns-clause-turn g c =
    let framed = c.in-Some.framed in
    let pending = c.next_frame.new.input in
    let is : IsFramed c.self.inside.offset pending framed = rw c.in-Some.is at c.in_ok-framed.ensures.frame in
    let answered = rw c.pending_bytes.ensures at c.in_ok-text.ensures.answered in
    let frame = frame_within framed pending answered.meaning in
    rw (← c.self.view_is) (record {
      frame = frame;
      taken = pending;
      takes = c.in_ok-framed.ensures.takes.taken;
      begins = subst (BeginsFrame c.self.inside.offset pending frame) (sym c.advance.ensures) (is.begins answered.meaning);
      means = answered.means;
      state = answered.state;
      offset = ap (λ (n : ℕ). c.self.inside.offset + n) (is.end answered.meaning);
      wrote = subst (Appends (g.K.Sink.held c.args.sink.now) (g.K.Sink.held c.send.new.sink)) answered.wrote
          c.in_ok-send.ensures.bytes;
    })

pub invariant_of-self-2 : goal.invariant_of-self-2
invariant_of-self-2 g c =
    let is : IsFramed c.self.inside.offset c.next_frame.new.input c.in-Some.framed =
    rw c.in-Some.is at c.in_ok-framed.ensures.frame in
    is.ends
