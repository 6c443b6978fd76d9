use Rattle.ifmap_http.specs.Wires.{wire_seen}
use Rattle.ifmap_client_script.proofs.Asking.{hears}
use Rattle.ifmap_client_script.proofs.exchanges.receive.Goals as goal

pub returns-in-Ok-clause-hears : goal.returns-in-Ok-clause-hears
returns-in-Ok-clause-hears g c =
    hears (wire_seen g.L.Source.left g.L.Sink.held g.L.Source.faults g.L.Sink.faults c.args.wire.now)
    (wire_seen g.L.Source.left g.L.Sink.held g.L.Source.faults g.L.Sink.faults c.read_body.new.wire) c.in-Ok.body c.reply_with_body.result
    c.in-Ok.ensures.receives c.reply_with_body.ensures
