use Rattle.ifmap_delta_tests.proofs.Lasting.{kept_begun}
use Rattle.ifmap_delta_tests.proofs.stepping.begin_step.Goals as goal

pub prepare_change-requires-clause-kept : goal.prepare_change-requires-clause-kept
prepare_change-requires-clause-kept c =
    kept_begun c.same_links_keep_subscriptions.ensures c.args.graph.now c.begin_change.new.graph c.in_ok-ready.ready
    c.args.subscription.now c.is_view.ensures c.in_ok-ready.ensures.way c.in_ok-ready.ensures.same c.requires.kept

pub returns-clause-out : goal.returns-clause-out
returns-clause-out c = record {
  way = c.in_ok-ready.ensures.way;
  keeps = c.in_ok-moved.ensures.keeps;
  room = c.in_ok-moved.ensures.room;
}
