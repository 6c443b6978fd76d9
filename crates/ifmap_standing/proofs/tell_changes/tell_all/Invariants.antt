use Rattle.std.proofs.Common.{◌≡◌}
use Rattle.std.specs.Prelude.{vec_capacity}
use Rattle.ifmap_delta.specs.SeenViews.{view_seen}
use Rattle.ifmap_standing.proofs.Stages.{Stage}
use Rattle.ifmap_standing.proofs.tell_changes.tell_all.Given as goal

abbrev pub invariant-loop-at : goal.invariant-loop-at
invariant-loop-at g l = record {
  stage : Stage (view_seen g.G.View.rows g.G.View.id_at g.G.View.links l.change.graph.now)
      (view_seen g.D.View.rows g.D.View.id_at g.D.View.links l.change.draft.now) l.change.located.plan.now.notes l.skipped l.fn.standing
      l.fn.steps
      l.at l.records.news.items l.records.ways.items l.standing l.steps;
  news_room : vec_capacity l.records.news ≡ vec_capacity l.fn.records.news;
  ways_room : vec_capacity l.records.ways ≡ vec_capacity l.fn.records.ways;
}
