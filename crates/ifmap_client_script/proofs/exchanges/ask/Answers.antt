use Rattle.ifmap_http.specs.Wires.{wire_seen}
use Rattle.ifmap_client_script.proofs.Asking.{asks, asks_part}
use Rattle.ifmap_client_script.proofs.exchanges.ask.Goals as goal

pub returns-in-Ok-clause-asks : goal.returns-in-Ok-clause-asks
returns-in-Ok-clause-asks g c =
    asks c.args.caller.now c.args.request.now
    (wire_seen g.L.Source.left g.L.Sink.held g.L.Source.faults g.L.Sink.faults c.args.wire.now)
    (wire_seen g.L.Source.left g.L.Sink.held g.L.Source.faults g.L.Sink.faults c.post.new.wire)
    (wire_seen g.L.Source.left g.L.Sink.held g.L.Source.faults g.L.Sink.faults c.receive.new.wire)
    c.post.ensures.unread c.receive.ensures.unwritten c.receive.result c.in-Ok.ensures.posts c.receive.ensures.hears

pub returns-in-Err-clause-asks : goal.returns-in-Err-clause-asks
returns-in-Err-clause-asks g c =
    asks_part c.args.caller.now c.args.request.now
    (wire_seen g.L.Source.left g.L.Sink.held g.L.Source.faults g.L.Sink.faults c.args.wire.now)
    (wire_seen g.L.Source.left g.L.Sink.held g.L.Source.faults g.L.Sink.faults c.post.new.wire) c.in-Err.failure c.in-Err.ensures.posts
