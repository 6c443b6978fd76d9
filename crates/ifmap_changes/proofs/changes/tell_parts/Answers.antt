use Rattle.std.proofs.Common.{◌≡◌, ◌∙◌, ap, refl, sym, subst, map, slice_get}
use Rattle.ifmap_lemmas.specs.Results.{on_err}
use Rattle.ifmap_tellings.specs.ifmap_delta.SeenViews.{IsUpToDate}
use Rattle.ifmap_tellings.specs.ifmap_delta.SameSearches.{HasSameSearch}
use Rattle.ifmap_tellings.specs.ifmap_standing.Kept.{AtEach, StaysRelated}
use Rattle.ifmap_tellings.specs.ifmap_standing.News.{news_of_each}
use Rattle.ifmap_tellings.specs.ifmap_standing.Standing.{standing_of}
use Rattle.ifmap_graph.specs.Seen.{rows_next, rows_now}
use Rattle.ifmap_tellings.specs.Tellings.{AllKept}
use Rattle.ifmap_changes.specs.declared.parts.Parts.{Parts}
use Rattle.ifmap_changes.specs.Between.{IsSoundSoFar}
use Rattle.ifmap_changes.specs.Changes.{IsTold, seen_next}
use Rattle.ifmap_changes.proofs.Told.{HasNews, alone_now, can_tell_all, flags_now, is_told, live_now, long_news, skips, wide_all, within_all}
use Rattle.ifmap_changes.proofs.changes.tell_parts.Given as given
use Rattle.ifmap_changes.proofs.changes.tell_parts.Goals as goal
use Rattle.ifmap_changes.proofs.changes.tell_parts.Goals.{After-deref-2}

-- the parts of before, with the sessions as the call left them: they are the same
abbrev before_news : (g : given.Over) → After-deref-2 g → Parts
before_news g c = record {
  graph = c.args.parts.now.graph;
  sessions = c.tell_standing.new.parts.sessions;
  standing = c.args.parts.now.standing;
}

same_before : (g : given.Over) (c : After-deref-2 g) → before_news g c ≡ c.args.parts.now
same_before g c = λ i. record {
  graph = c.args.parts.now.graph;
  sessions = c.tell_standing.ensures.sessions i;
  standing = c.args.parts.now.standing;
}

news : (g : given.Over) (c : After-deref-2 g)
    → HasNews c.args.asking.now (before_news g c) c.args.pending.now c.args.plan.now.notes c.deref-2.result.now c.in_ok-told.told.news
news g c =
    let old = c.args.parts.now
    in record {
      ready = subst (λ (p : Parts). IsSoundSoFar c.args.asking.now p c.args.pending.now) (sym (same_before g c)) c.requires.ready;
      same = subst (AtEach (λ _. StaysRelated HasSameSearch) old.standing.items) (sym c.deref-2.ensures.value)
          c.tell_standing.ensures.keeps.same;
      are_news = subst (λ flags. c.in_ok-told.told.news
          ≡ news_of_each (rows_now old.graph) (rows_next old.graph) c.args.plan.now.notes flags (map standing_of old.standing.items))
          c.deref.ensures.value c.in_ok-told.ensures.news;
    }

pub tell_standing-requires-clause-kept : goal.tell_standing-requires-clause-kept
tell_standing-requires-clause-kept g c = λ i x e f.
    c.requires.ready.kept i x e (ap (λ l. slice_get l i) (sym c.deref.ensures.value) ∙ f)

pub queue_news-requires : goal.queue_news-requires
queue_news-requires g c =
    let known = news g (goal.at.queue_news-requires g c).After-deref-2
    in record {
      long = long_news known;
      flags = flags_now known;
      live = live_now known;
      wide = wide_all known.ready;
      within = within_all known.ready;
      can_tell = can_tell_all known.ready;
      sized = known.ready.sized;
      alone = alone_now known;
      skipped = skips known;
    }

pub returns-in-Ok-clause-keeps : goal.returns-in-Ok-clause-keeps
returns-in-Ok-clause-keeps g c =
    let e = c.tell_standing.ensures.keeps in record { graph = e.graph; same = e.same; err = tt }

pub returns-in_err-told-clause-keeps : goal.returns-in_err-told-clause-keeps
returns-in_err-told-clause-keeps g c =
    let e = c.in_err-told.ensures.keeps
    in record { graph = e.graph; same = e.same; err = on_err c.from_residual.result _ e.err }

pub returns-in-Ok-clause-told : goal.returns-in-Ok-clause-told
returns-in-Ok-clause-told g c =
    let place = (goal.at.returns-in-Ok-clause-told g c).After-deref-2
    in let pending = c.args.pending.now
    in let told = c.in-Ok.ensures
    in let kept = subst (AllKept (λ x. IsUpToDate (seen_next c.args.parts.now.graph) x.subscription) pending.gone.items)
    (sym c.deref-2.ensures.value) (λ i x e f. c.in_ok-told.ensures.kept i x e (ap (λ l. slice_get l i) c.deref.ensures.value ∙ f))
    in let new : Parts = record {
      graph = c.tell_standing.new.parts.graph;
      sessions = c.queue_news.new.sessions;
      standing = c.tell_standing.new.parts.standing;
    }
    in subst (λ (p : Parts). IsTold c.args.asking.now p pending c.args.plan.now.notes new c.queue_news.new.pending) (same_before g place)
    (is_told (news g place) c.queue_news.new.pending c.queue_news.new.sessions c.queue_news.ensures.same told.told told.gone told.overrun
    told.brought told.can_tell told.sized told.alone kept new c.tell_standing.ensures.keeps.graph refl (sym c.deref-2.ensures.value))
