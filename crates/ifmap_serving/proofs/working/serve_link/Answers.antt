use Rattle.ifmap_serving.proofs.Succession.{serves_link}
use Rattle.ifmap_serving.proofs.working.serve_link.Goals as goal

pub returns : goal.returns
returns g c =
    serves_link _ _ _ g.L.Source.left g.L.Sink.held g.L.Source.faults g.L.Sink.faults c.args.link c.into_link.result c.new-wire.result
    c.serve_connection.new.wire c.serve_connection.result c.new-wire.ensures c.into_link.ensures c.serve_connection.ensures
