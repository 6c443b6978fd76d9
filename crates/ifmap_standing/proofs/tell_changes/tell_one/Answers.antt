use Rattle.std.proofs.Common.{◌∙◌, ap, refl, sym}
use Rattle.ifmap_delta.specs.ifmap_folds.Differences.{difference}
use Rattle.ifmap_delta.specs.ifmap_fresh.Fresh.{fresh}
use Rattle.ifmap_standing.proofs.tell_changes.tell_one.Goals as goal

pub take_over-requires-clause-planned : goal.take_over-requires-clause-planned
take_over-requires-clause-planned g c =
    let located = c.requires.planned.located
    in record {
      graph = located.graph;
      draft = located.draft;
      change = c.requires.planned.change;
      located = located.items.changes;
    }

pub news_of-requires-clause-located : goal.news_of-requires-clause-located
news_of-requires-clause-located g c = c.requires.planned.located

pub news_of-requires-clause-canon : goal.news_of-requires-clause-canon
news_of-requires-clause-canon g c = c.requires.planned.notes

pub news_of-requires-clause-deleted : goal.news_of-requires-clause-deleted
news_of-requires-clause-deleted g c =
    let a = g.G.View.rows c.args.change.now.graph.now
    in let b = g.D.View.rows c.args.change.now.draft.now
    in c.in_ok-taken.ensures.deleted ∙ ap (λ s. difference (fresh a s) (fresh b s)) (sym c.in_ok-taken.ensures.way.search.search)

pub news_of-requires-clause-updated : goal.news_of-requires-clause-updated
news_of-requires-clause-updated g c =
    let a = g.G.View.rows c.args.change.now.graph.now
    in let b = g.D.View.rows c.args.change.now.draft.now
    in c.in_ok-taken.ensures.updated ∙ ap (λ s. difference (fresh b s) (fresh a s)) (sym c.in_ok-taken.ensures.way.search.search)

pub take_back_one-requires : goal.take_back_one-requires
take_back_one-requires g c = (c.args.standing.now.subscription, c.in_ok-taken.ensures.way)

pub returns-in-Err-clause-err : goal.returns-in-Err-clause-err
returns-in-Err-clause-err g c = record {
  serial = refl;
  name = refl;
  subscription = c.take_back_one.ensures c.args.standing.now.subscription c.in_ok-taken.ensures.way;
}

pub returns-in-Ok-clause-way : goal.returns-in-Ok-clause-way
returns-in-Ok-clause-way g c = record { serial = refl; name = refl; subscription = c.in_ok-taken.ensures.way }
