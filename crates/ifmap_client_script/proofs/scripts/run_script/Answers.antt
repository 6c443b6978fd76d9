use Rattle.ifmap_http.specs.Wires.{wire_seen}
use Rattle.ifmap_client_script.specs.Ends.{source_and_ports, ports}
use Rattle.ifmap_client_script.proofs.Endings.{not_begun}
use Rattle.ifmap_client_script.proofs.scripts.run_script.Goals as goal

pub returns-in_default : goal.returns-in_default
returns-in_default g c =
    let f = wire_seen g.A.Source.left g.A.Sink.held g.A.Source.faults g.A.Sink.faults c.args.first.now in
    let s = wire_seen g.B.Source.left g.B.Sink.held g.B.Source.faults g.B.Sink.faults c.args.second.now in
    not_begun (record { client = c.args.client.now; host = c.args.host.now })
    (source_and_ports (g.S.Source.left c.args.source.now) (g.S.Source.faults c.args.source.now)
    (ports (g.K.Sink.held c.args.sink.now) (g.K.Sink.faults c.args.sink.now) f s)) c.requires.first c.requires.second

pub returns-in_default-copy : goal.returns-in_default-copy
returns-in_default-copy g c =
    let f = wire_seen g.A.Source.left g.A.Sink.held g.A.Source.faults g.A.Sink.faults c.args.first.now in
    let s = wire_seen g.B.Source.left g.B.Sink.held g.B.Source.faults g.B.Sink.faults c.args.second.now in
    not_begun (record { client = c.args.client.now; host = c.args.host.now })
    (source_and_ports (g.S.Source.left c.args.source.now) (g.S.Source.faults c.args.source.now)
    (ports (g.K.Sink.held c.args.sink.now) (g.K.Sink.faults c.args.sink.now) f s)) c.requires.first c.requires.second
