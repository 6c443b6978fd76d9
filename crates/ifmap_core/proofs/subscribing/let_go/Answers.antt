use Rattle.std.proofs.Common.{refl}
use Rattle.ifmap_core.proofs.Places.{searched_itself}
use Rattle.ifmap_core.proofs.Subscribed.{ready_there, same_so_far}
use Rattle.ifmap_core.proofs.LaterParts.{keeps_there}
use Rattle.ifmap_core.proofs.subscribing.let_go.Goals as goal
use Rattle.ifmap_subscribes.specs.ifmap_standing.PlaceLaws.{kept_itself}
use Rattle.ifmap_subscribes.specs.ifmap_tellings.ToldLaws.{same_sessions_itself}
use Rattle.ifmap_subscribes.specs.ifmap_changes.StartLaws.{shares_fewer}

pub returns-clause-steady : goal.returns-clause-steady
returns-clause-steady c = c.release_all.ensures.steady c.args.parts.now.standing.items c.requires.steady

pub returns-clause-ready : goal.returns-clause-ready
returns-clause-ready c =
    let old = c.args.parts.now in
    ready_there c.args.asking.now old (record { graph = c.release_all.new.graph; sessions = old.sessions; standing = old.standing })
    c.args.pending.now refl refl
    (keeps_there c.same_links_keep_subscriptions.ensures old.graph c.release_all.new.graph c.is_view.ensures c.is_view-2.ensures
    c.release_all.ensures.lets_go.rows c.release_all.ensures.lets_go.links
    (shares_fewer old.graph c.release_all.new.graph c.release_all.ensures.lets_go.numbers))
    (c.release_all.ensures.steady old.standing.items c.requires.steady) c.requires.ready

pub returns-clause-state_now : goal.returns-clause-state_now
returns-clause-state_now c =
    let old = c.args.parts.now in
    same_so_far c.args.asking.now old (record { graph = c.release_all.new.graph; sessions = old.sessions; standing = old.standing })
    c.args.pending.now c.release_all.ensures.lets_go.rows (same_sessions_itself old.sessions) refl

pub returns-clause-later : goal.returns-clause-later
returns-clause-later c = record {
  waits = c.release_all.ensures.lets_go.waits;
  lean = c.release_all.ensures.lets_go.lean;
  searches = searched_itself c.args.parts.now.standing.items;
  sessions = same_sessions_itself c.args.parts.now.sessions;
}

pub returns-clause-kept : goal.returns-clause-kept
returns-clause-kept c = record {
  back = record {
    steady = c.release_all.ensures.steady c.args.parts.now.standing.items c.requires.steady;
    rows = c.release_all.ensures.lets_go.rows;
    links = c.release_all.ensures.lets_go.links;
    numbers = shares_fewer c.args.parts.now.graph c.release_all.new.graph c.release_all.ensures.lets_go.numbers;
    lean = c.release_all.ensures.lets_go.lean;
    standing = kept_itself c.args.parts.now.standing.items;
    sessions = same_sessions_itself c.args.parts.now.sessions;
  };
  backs = c.release_all.ensures.lets_go.backs;
}
