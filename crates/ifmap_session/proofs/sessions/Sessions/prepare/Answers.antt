use Rattle.std.proofs.Common.{sym, ◌∙◌}
use Rattle.ifmap_session.proofs.sessions.Sessions.prepare.Goals as goal

pub invariant_of-result : goal.invariant_of-result
invariant_of-result c = record {
  named = (c.args.random, c.id.view_is ∙ c.in_ok-id.ensures);
  one_id = c.in_ok-copy.ensures ∙ sym c.id.view_is;
  one_client = c.in_ok-copy-3.ensures ∙ sym c.in_ok-copy-2.ensures;
}
