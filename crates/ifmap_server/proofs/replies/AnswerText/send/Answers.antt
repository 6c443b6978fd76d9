-- The line is written, and then the reply is written and handed on.
use Rattle.std.proofs.Common.{◌≡◌, ℕ, List, ◌++◌, subst}
use Rattle.ifmap_io.specs.Written.{WritesAll}
use Rattle.ifmap_server.proofs.Pieces.{both_sent}
use Rattle.ifmap_server.proofs.replies.AnswerText.send.Goals as goal

pub returns-clause-bytes : goal.returns-clause-bytes
returns-clause-bytes g c =
    let whole : c.as_bytes.result.now ++ c.as_slice.result.now ≡ c.args.self.now =
    rw (c.as_bytes.ensures.value, c.as_slice.ensures) c.self.view_is in
    subst (λ (text : List ℕ). WritesAll (g.K.Sink.held c.args.sink.now) (g.K.Sink.held c.send.new.sink) c.send.result text) whole
    (both_sent c.send.result (g.K.Sink.held c.args.sink.now) (g.K.Sink.held c.write.new.sink) (g.K.Sink.held c.send.new.sink)
    c.as_bytes.result.now c.as_slice.result.now c.in_ok-write.ensures.bytes c.send.ensures.bytes)
