use Rattle.ifmap_core.proofs.Expiring.{can_settled}
use Rattle.ifmap_core.proofs.LaterParts.{keeps_there}
use Rattle.ifmap_core.proofs.ending.settle_ended.Goals as goal
use Rattle.ifmap_core.specs.Completions.{starts_in}
use Rattle.ifmap_subscribes.specs.ifmap_changes.StartLaws.{shares_fewer}

pub settle_made-requires-clause-steady : goal.settle_made-requires-clause-steady
settle_made-requires-clause-steady c = (starts_in c.args.completion.now, c.requires.can.steady)

pub returns-clause-can : goal.returns-clause-can
returns-clause-can c =
    let old = c.args.parts.now in
    let new = c.settle_made.new.parts in
    let e = c.settle_made.ensures in
    let s = e.settled in
    let steady = e.steady (starts_in c.args.completion.now) c.requires.can.steady in
    record {
      steady = steady;
      ready = e.ready c.args.asking.now c.args.pending.now c.requires.can.ready;
      can = can_settled c.args.asking.now old new c.args.pending.now s
          (keeps_there c.same_links_keep_subscriptions.ensures old.graph new.graph c.is_view.ensures c.is_view-2.ensures s.rows s.links
          (shares_fewer old.graph new.graph s.numbers)) (e.state_now c.args.asking.now c.args.pending.now) c.args.completion.now steady
          c.requires.can.can;
    }

pub returns-clause-lean : goal.returns-clause-lean
returns-clause-lean c = c.settle_made.ensures.lean
