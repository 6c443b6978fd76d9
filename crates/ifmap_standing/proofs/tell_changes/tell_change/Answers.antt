use Rattle.std.proofs.Common.{◌∙◌, ◌<◌, ap, length, map, subst, sym, arith}
use Rattle.ifmap_delta.specs.Changes.{ShowsAfter}
use Rattle.ifmap_delta.specs.SeenViews.{view_seen}
use Rattle.ifmap_delta.specs.SameSearches.{HasSameSearch}
use Rattle.std.specs.List.{AllByRecursion, zip}
use Rattle.ifmap_ident.specs.Items.{IsCanonItem}
use Rattle.ifmap_lemmas.specs.Results.{on_err}
use Rattle.ifmap_delta.specs.ifmap_plans.declared.plans.Plan.{Plan}
use Rattle.ifmap_standing.specs.Kept.{AtEach, KeepsSame, StaysRelated}
use Rattle.ifmap_standing.specs.News.{news_of_each}
use Rattle.ifmap_standing.specs.Standing.{standing_of}
use Rattle.ifmap_standing.proofs.Stages.{lead_searches, stands_itself, within_none}
use Rattle.ifmap_standing.proofs.tell_changes.tell_change.Goals as goal
use Rattle.ifmap_standing.specs.PlaceLaws.{search_itself, keeps_itself, keep_searches}

pub returns-in_err-with_capacity-clause-same : goal.returns-in_err-with_capacity-clause-same
returns-in_err-with_capacity-clause-same g c = stands_itself HasSameSearch search_itself c.args.standing.now

pub returns-in_err-with_capacity-clause-err : goal.returns-in_err-with_capacity-clause-err
returns-in_err-with_capacity-clause-err g c =
    on_err c.from_residual.result (AtEach (λ _. StaysRelated KeepsSame) c.args.standing.now c.args.standing.now)
    (stands_itself KeepsSame keeps_itself c.args.standing.now)

pub returns-in_err-with_capacity-clause-steps : goal.returns-in_err-with_capacity-clause-steps
returns-in_err-with_capacity-clause-steps g c =
    let old = view_seen g.G.View.rows g.G.View.id_at g.G.View.links c.args.change.now.graph.now
    in let new = view_seen g.D.View.rows g.D.View.id_at g.D.View.links c.args.change.now.draft.now
    in within_none old new (zip c.args.skipped.now c.args.standing.now) c.args.steps.now

pub take_change_back-requires : goal.take_change_back-requires
take_change_back-requires g c = (c.args.standing.now, c.tell_all.ensures.ways)

pub returns-in-Err-clause-err : goal.returns-in-Err-clause-err
returns-in-Err-clause-err g c = c.take_change_back.ensures c.args.standing.now c.tell_all.ensures.ways

pub returns-in-Err-clause-same : goal.returns-in-Err-clause-same
returns-in-Err-clause-same g c =
    keep_searches c.args.standing.now c.take_change_back.new.standing
    (c.take_change_back.ensures c.args.standing.now c.tell_all.ensures.ways)

pub returns-in-Ok-clause-same : goal.returns-in-Ok-clause-same
returns-in-Ok-clause-same g c =
    lead_searches c.args.standing.now c.tell_all.new.records.ways.items c.tell_all.new.standing c.tell_all.ensures.ways

pub returns-in_err-with_capacity-2-clause-steps : goal.returns-in_err-with_capacity-2-clause-steps
returns-in_err-with_capacity-2-clause-steps g c =
    let old = view_seen g.G.View.rows g.G.View.id_at g.G.View.links c.args.change.now.graph.now
    in let new = view_seen g.D.View.rows g.D.View.id_at g.D.View.links c.args.change.now.draft.now
    in within_none old new (zip c.args.skipped.now c.args.standing.now) c.args.steps.now

pub returns-in_err-located-clause-same : goal.returns-in_err-located-clause-same
returns-in_err-located-clause-same g c = stands_itself HasSameSearch search_itself c.args.standing.now

pub returns-in_err-located-clause-err : goal.returns-in_err-located-clause-err
returns-in_err-located-clause-err g c =
    on_err c.from_residual-in_err-located.result (AtEach (λ _. StaysRelated KeepsSame) c.args.standing.now c.args.standing.now)
    (stands_itself KeepsSame keeps_itself c.args.standing.now)

pub returns-in_err-located-clause-steps : goal.returns-in_err-located-clause-steps
returns-in_err-located-clause-steps g c =
    let old = view_seen g.G.View.rows g.G.View.id_at g.G.View.links c.args.change.now.graph.now
    in let new = view_seen g.D.View.rows g.D.View.id_at g.D.View.links c.args.change.now.draft.now
    in within_none old new (zip c.args.skipped.now c.args.standing.now) c.args.steps.now

pub tell_all-requires-clause-located : goal.tell_all-requires-clause-located
tell_all-requires-clause-located g c = λ some.
    let is : 0 < length c.args.standing.now = omega (arith, some, c.requires.can.flags)
    in record {
      graph = c.look_at_views.ensures.graph is;
      draft = c.look_at_views.ensures.draft is;
      items = c.in_ok-located.ensures.located;
    }

pub tell_all-requires-clause-change : goal.tell_all-requires-clause-change
tell_all-requires-clause-change g c =
    let old = view_seen g.G.View.rows g.G.View.id_at g.G.View.links c.args.change.now.graph.now
    in let new = view_seen g.D.View.rows g.D.View.id_at g.D.View.links c.args.change.now.draft.now
    in subst (λ (p : Plan). ShowsAfter old new p.changes) (sym c.in_ok-located.ensures.plan) c.requires.change

pub tell_all-requires-clause-canon : goal.tell_all-requires-clause-canon
tell_all-requires-clause-canon g c =
    subst (λ (p : Plan). AllByRecursion (λ n. IsCanonItem n.item) p.notes) (sym c.in_ok-located.ensures.plan) c.requires.canon

pub returns-in-Ok-clause-news : goal.returns-in-Ok-clause-news
returns-in-Ok-clause-news g c =
    let a = g.G.View.rows c.args.change.now.graph.now
    in let b = g.D.View.rows c.args.change.now.draft.now
    in c.in-Ok.ensures.news
    ∙ ap (λ (p : Plan). news_of_each a b p.notes c.args.skipped.now (map standing_of c.args.standing.now)) c.in_ok-located.ensures.plan
