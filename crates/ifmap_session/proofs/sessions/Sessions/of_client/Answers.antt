use Rattle.std.proofs.Common.{rules, sym}
use Rattle.ifmap_session.proofs.SessionLaws.{client_live}
use Rattle.ifmap_session.proofs.sessions.Sessions.of_client.Goals as goal

pub returns-clause-serial : goal.returns-clause-serial
returns-clause-serial c = search rules

pub returns-clause-live : goal.returns-clause-live
returns-clause-live c =
    client_live c.args.self.now.live c.args.client.now c.index.result.now.serial (sym (returns-clause-serial c))
