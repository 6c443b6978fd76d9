use Rattle.ifmap_client_script.specs.Holding.{known_of}
use Rattle.ifmap_client_script.proofs.Carrying.{request_told, request_untold}
use Rattle.ifmap_client_script.proofs.clients.Client.do_request.Goals as goal

pub returns-in-Ok-clause-carries : goal.returns-in-Ok-clause-carries
returns-in-Ok-clause-carries g c =
    request_told c.args.caller.now c.args.request (known_of c.args.self.now) (g.O.Outlets.seen c.args.outlets.now)
    (g.O.Outlets.seen c.ask.new.outlets) c.requires.unspent (g.O.Outlets.seen c.tell.new.outlets) (known_of c.tell.new.self)
    c.in-Ok.told c.tell.result c.tell.ensures.prints c.tell.ensures.known c.in-Ok.ensures.asks

pub returns-in-Err-clause-carries : goal.returns-in-Err-clause-carries
returns-in-Err-clause-carries g c =
    request_untold c.args.caller.now c.args.request (known_of c.args.self.now) (g.O.Outlets.seen c.args.outlets.now)
    (g.O.Outlets.seen c.ask.new.outlets) c.requires.unspent (known_of c.args.self.now) c.in-Err.failure c.in-Err.ensures.asks
