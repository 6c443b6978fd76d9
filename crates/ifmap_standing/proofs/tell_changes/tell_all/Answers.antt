use Rattle.std.proofs.Common.{◌∙◌, refl, arith}
use Rattle.ifmap_delta.specs.SeenViews.{view_seen}
use Rattle.ifmap_standing.proofs.Stages.{kept_end, kept_so_far, news_end, stage_first, stage_next, steps_all, steps_end, ways_failed}
use Rattle.ifmap_standing.proofs.tell_changes.tell_all.Goals as goal

pub loop-at-init : goal.loop-at-init
loop-at-init g c =
    let old = view_seen g.G.View.rows g.G.View.id_at g.G.View.links c.args.change.now.graph.now
    in let new = view_seen g.D.View.rows g.D.View.id_at g.D.View.links c.args.change.now.draft.now
    in record {
      stage = rw (c.requires.no_news, c.requires.no_ways) (stage_first old new c.args.change.now.located.plan.now.notes c.args.skipped.now
          c.args.standing.now c.args.steps.now);
      news_room = refl;
      ways_room = refl;
    }

pub tell_where-requires-clause-kept : goal.tell_where-requires-clause-kept
tell_where-requires-clause-kept g c =
    kept_so_far c.loop-at.invariant.stage c.requires.can.flags c.loop-at-test.true c.index-standing-at.result c.requires.can.kept

pub tell_where-requires-clause-planned : goal.tell_where-requires-clause-planned
tell_where-requires-clause-planned g c = record {
  located = c.requires.located (omega (arith, c.loop-at-test.true));
  change = c.requires.change;
  notes = c.requires.canon;
}

pub push_reserved-requires : goal.push_reserved-requires
push_reserved-requires g c =
    let l = c.loop-at
    in omega (arith, c.loop-at-test.true, l.invariant.stage.told_count, l.records.news.ok.0, l.invariant.news_room, c.requires.news_room)

pub push_reserved-requires-in-loop-at : goal.push_reserved-requires-in-loop-at
push_reserved-requires-in-loop-at g c =
    let l = c.loop-at
    in omega (arith, c.loop-at-test.true, l.invariant.stage.count, l.records.ways.ok.0, l.invariant.ways_room, c.requires.ways_room)

pub loop-at-preserved : goal.loop-at-preserved
loop-at-preserved g c =
    let l = c.loop-at
    in let told = c.in_ok-told.told
    in let e = c.in_ok-told.ensures
    in record {
      stage = stage_next l.invariant.stage c.requires.can.flags c.loop-at-test.true c.index-standing-at.result c.tell_where.new.standing
          c.tell_where.new.steps c.tell_where.ensures.steps told.news told.way e.news e.way e.skipped e.kept c.push_reserved.ensures.items
          c.push_reserved-in-loop-at.ensures.items;
      news_room = c.push_reserved.ensures.capacity ∙ l.invariant.news_room;
      ways_room = c.push_reserved-in-loop-at.ensures.capacity ∙ l.invariant.ways_room;
    }

pub returns-in_err-told-clause-ways : goal.returns-in_err-told-clause-ways
returns-in_err-told-clause-ways g c =
    ways_failed c.loop-at.invariant.stage c.requires.can.flags c.loop-at-test.true c.index-standing-at.result c.tell_where.new.standing
    c.in_err-told.ensures.err

pub returns-in_err-told-clause-steps : goal.returns-in_err-told-clause-steps
returns-in_err-told-clause-steps g c =
    steps_end c.loop-at.invariant.stage c.requires.can.flags c.loop-at-test.true c.index-standing-at.result c.tell_where.new.steps
    c.tell_where.ensures.steps

pub returns-clause-news : goal.returns-clause-news
returns-clause-news g c = news_end c.loop-at.invariant.stage (omega (arith, c.loop-at-test.false))

pub returns-clause-brought : goal.returns-clause-brought
returns-clause-brought g c = record {
  kept = kept_end c.loop-at.invariant.stage (omega (arith, c.loop-at-test.false));
  same = c.loop-at.invariant.stage.skips;
}

pub returns-clause-ways : goal.returns-clause-ways
returns-clause-ways g c = c.loop-at.invariant.stage.lead

pub returns-clause-steps : goal.returns-clause-steps
returns-clause-steps g c = steps_all c.loop-at.invariant.stage (omega (arith, c.loop-at-test.false))
