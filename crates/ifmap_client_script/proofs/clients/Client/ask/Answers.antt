use Rattle.std.proofs.Common.{◌≡◌, inl, subst, Some, Err}
use Rattle.ifmap_client_script.specs.Deeds.{request_in}
use Rattle.ifmap_client_script.specs.Holding.{Holding, known_of}
use Rattle.ifmap_client_script.specs.ScriptFailures.{IsNamedOrBadLine}
use Rattle.ifmap_client_script.proofs.Carrying.{over_none}
use Rattle.ifmap_client_script.proofs.clients.Client.ask.Goals as goal

pub returns-in-Ok-clause-asks : goal.returns-in-Ok-clause-asks
returns-in-Ok-clause-asks g c =
    inl (
      c.in-Ok.sent,
      subst (λ (h : Holding). request_in h.session c.args.request ≡ Some c.in-Ok.sent) c.self.view_is c.in-Ok.ensures,
      c.ask.ensures.asks,
    )

pub returns-in-Err-clause-asks : goal.returns-in-Err-clause-asks
returns-in-Err-clause-asks g c =
    over_none c.args.caller.now c.args.request (known_of c.args.self.now) (g.O.Outlets.seen c.args.outlets.now) c.in-Err.failure
    (subst (λ (h : Holding). IsNamedOrBadLine (request_in h.session c.args.request) (Err c.in-Err.failure)) c.self.view_is c.in-Err.ensures)
