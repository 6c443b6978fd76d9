use Rattle.ifmap_graph_tests.proofs.Begun.{made_by}
use Rattle.ifmap_graph_tests.proofs.carrying.make.Goals as goal

pub returns : goal.returns
returns c =
    let e = c.commit_kept.ensures
    in made_by c.args.graph.now c.commit_kept.new.self c.args.ready c.commit_kept.result c.requires e.still e.now e.own e.back
