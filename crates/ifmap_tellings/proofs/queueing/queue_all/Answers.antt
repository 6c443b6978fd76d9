use Rattle.std.proofs.Common.{◌∙◌, sym, subst, arith}
use Rattle.std.proofs.lemmas.Option.{slice_get-get_or}
use Rattle.ifmap_tellings.proofs.QueuedLaws.{Queueing, next_alone, next_within, no_news, queueing_end, queueing_first, queueing_next, still_within}
use Rattle.ifmap_tellings.proofs.queueing.queue_all.Goals as goal

pub loop-one-init : goal.loop-one-init
loop-one-init c =
    subst (λ left. Queueing c.args.sessions.now.live c.args.standing.now c.args.news c.args.tellings.now c.args.tellings.now 0 left)
    (sym (c.into_iter-one-iterator.ensures.into_iter_gives.0 ∙ c.news.view_is))
    (queueing_first c.args.sessions.now.live c.args.standing.now c.args.news c.args.tellings.now c.requires.sized c.requires.long)

pub bounds-standing-at-in-Some : goal.bounds-standing-at-in-Some
bounds-standing-at-in-Some c = next_within _ _ _ _ _ _ _ c.loop-one.invariant _ _ c.in-Some.ensures.steps.0

pub queue_items-requires-clause-within : goal.queue_items-requires-clause-within
queue_items-requires-clause-within c = still_within _ _ _ _ _ _ _ c.loop-one.invariant c.requires.within

pub queue_items-requires-clause-alone : goal.queue_items-requires-clause-alone
queue_items-requires-clause-alone c =
    let low = next_within _ _ _ _ _ _ _ c.loop-one.invariant _ _ c.in-Some.ensures.steps.0
    in let here = slice_get-get_or c.args.standing.now c.loop-one.at c.index-standing-at.result low
    in next_alone _ _ _ _ _ _ _ c.loop-one.invariant _ _ _ c.in-Some.ensures.steps.0 here c.requires.alone

pub loop-one-preserved : goal.loop-one-preserved
loop-one-preserved c =
    let e = c.in_ok-queue_items.ensures
    in let low = next_within _ _ _ _ _ _ _ c.loop-one.invariant _ _ c.in-Some.ensures.steps.0
    in let here = slice_get-get_or c.args.standing.now c.loop-one.at c.index-standing-at.result low
    in queueing_next _ _ _ _ _ _ _ c.loop-one.invariant _ _ _ c.in-Some.ensures.steps.0 here c.queue_items.new.tellings e.added e.others
    e.sized

pub returns-clause-added : goal.returns-clause-added
returns-clause-added c =
    queueing_end _ _ _ _ _ _ _ c.loop-one.invariant
    (no_news _ (omega (arith, c.loop-one.one-iterator.rest.ok.0, c.in-None.ensures.steps.0)))
