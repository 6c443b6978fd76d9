use Rattle.std.proofs.Common.{◌≡◌, refl, sym, subst}
use Rattle.std.specs.Prelude.{IfOk}
use Rattle.ifmap_delta.specs.SeenViews.{view_seen}
use Rattle.ifmap_standing.specs.Bounds.{IsWithinWhere}
use Rattle.ifmap_standing.specs.News.{news_where}
use Rattle.ifmap_standing.specs.Standing.{standing_of}
use Rattle.ifmap_standing.proofs.Stages.{where_none}
use Rattle.ifmap_standing.proofs.tell_changes.tell_where.Goals as goal
use Rattle.ifmap_standing.specs.PlaceLaws.{keeps_itself}

pub returns-then-is_skipped-clause-way : goal.returns-then-is_skipped-clause-way
returns-then-is_skipped-clause-way g c = record {
  serial = refl;
  name = refl;
  subscription = keeps_itself c.args.standing.now.subscription;
}

pub returns-then-is_skipped-clause-steps : goal.returns-then-is_skipped-clause-steps
returns-then-is_skipped-clause-steps g c =
    let old = view_seen g.G.View.rows g.G.View.id_at g.G.View.links c.args.change.now.graph.now
    in let new = view_seen g.D.View.rows g.D.View.id_at g.D.View.links c.args.change.now.draft.now
    in where_none old new c.args.is_skipped c.args.standing.now c.args.steps.now

pub returns-clause-steps : goal.returns-clause-steps
returns-clause-steps g c =
    let old = view_seen g.G.View.rows g.G.View.id_at g.G.View.links c.args.change.now.graph.now
    in let new = view_seen g.D.View.rows g.D.View.id_at g.D.View.links c.args.change.now.draft.now
    in subst (λ b. IsWithinWhere old new b c.args.standing.now c.args.steps.now c.tell_one.new.steps) (sym c.if-is_skipped.false)
    c.tell_one.ensures.steps

pub returns-clause-news : goal.returns-clause-news
returns-clause-news g c =
    let a = g.G.View.rows c.args.change.now.graph.now
    in let b = g.D.View.rows c.args.change.now.draft.now
    in subst (λ skip. IfOk c.tell_one.result (λ told. told.news ≡ news_where a b c.args.change.now.located.plan.now.notes skip
    (standing_of c.args.standing.now))) (sym c.if-is_skipped.false) c.tell_one.ensures.news
