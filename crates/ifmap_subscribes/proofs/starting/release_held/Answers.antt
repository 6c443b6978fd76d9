use Rattle.ifmap_subscribes.proofs.Starts.{held_out, let_go_steady}
use Rattle.ifmap_subscribes.proofs.starting.release_held.Goals as goal

pub release-requires : goal.release-requires
release-requires c = held_out c.args.graph.now c.requires.0 c.args.number c.args.start.now c.requires.1

pub returns-clause-steady : goal.returns-clause-steady
returns-clause-steady c = λ standing was.
    let_go_steady c.args.graph.now standing c.args.number c.args.start.now was c.number-same.ensures.whole
    c.bytes_tell_identifiers_apart.ensures c.release.new.self c.release.ensures.keeps.shelves c.release.ensures.keeps.still
    c.release.ensures.own c.release.ensures.stays
