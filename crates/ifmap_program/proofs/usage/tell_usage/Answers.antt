-- The usage line was sent, or a prefix of it.
use Rattle.std.proofs.Common.{inl, inr, refl, subst}
use Rattle.std.specs.Io.KnownBytes.{Appends}
use Rattle.ifmap_server.specs.Output.{AppendsPrefix}
use Rattle.ifmap_program.proofs.usage.tell_usage.Goals as goal

pub returns-in-Ok : goal.returns-in-Ok
returns-in-Ok g c =
    inl (
      refl,
      subst (Appends (g.K.Sink.held c.args.sink.now) (g.K.Sink.held c.send_bytes.new.sink)) c.as_bytes.ensures.value
          c.in-Ok.ensures.bytes,
    )

pub returns-in-Err : goal.returns-in-Err
returns-in-Err g c =
    inr (
      refl,
      subst (AppendsPrefix (g.K.Sink.held c.args.sink.now) (g.K.Sink.held c.send_bytes.new.sink)) c.as_bytes.ensures.value
          c.in-Err.ensures.bytes,
      c.in-Err.ensures.cause.failed,
    )
