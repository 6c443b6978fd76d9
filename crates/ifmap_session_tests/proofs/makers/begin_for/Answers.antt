use Rattle.std.proofs.Common.{sym, ◌∙◌}
use Rattle.ifmap_session.specs.Sessions.{Session, session_of_client}
use Rattle.ifmap_session_tests.proofs.Options.{none_before}
use Rattle.ifmap_session_tests.proofs.makers.begin_for.Goals as goal

pub begin-requires : goal.begin-requires
begin-requires c = record {
  none = none_before (λ (s : Session). s.serial) (session_of_client c.args.client.now c.args.sessions.now.live) c.of_client.result
      c.of_client.ensures.serial (sym c.is_some.ensures ∙ c.if-is_some.false);
}
