use Rattle.std.proofs.Common.{refl}
use Rattle.ifmap_subscribes.proofs.Ready.{ready_after}
use Rattle.ifmap_subscribes.proofs.readying.give_up.Goals as goal
use Rattle.ifmap_changes.specs.StartLaws.{shares_fewer}

pub returns-clause-ready : goal.returns-clause-ready
returns-clause-ready c =
    let p = c.args.parts.now in
    let e = c.release_all.ensures in
    let steady = e.steady p.standing.items c.requires.readied.stand.steady in
    ready_after c.args.scene.now.asking.now p c.args.scene.now.pending.now c.release_all.new.graph c.requires.ready
    e.lets_go.kept steady.numbered

pub returns-clause-given_up : goal.returns-clause-given_up
returns-clause-given_up c =
    let p = c.args.parts.now in
    let e = c.release_all.ensures in
    record {
      steady = e.steady p.standing.items c.requires.readied.stand.steady;
      rows = e.lets_go.rows;
      links = e.lets_go.links;
      numbers = shares_fewer p.graph c.release_all.new.graph e.lets_go.numbers;
      backs = e.lets_go.backs;
      waits = e.lets_go.waits;
      lean = e.lets_go.lean;
      sessions = refl;
      standing = refl;
    }
