use Rattle.std.proofs.Common.{◌++◌, sym, ◌∙◌, ap}
use Rattle.ifmap_core.proofs.Expiring.{can_back, can_settle_later}
use Rattle.ifmap_core.proofs.ending.answer_ended.Goals as goal
use Rattle.ifmap_core.specs.Completions.{after_completion}
use Rattle.ifmap_subscribes.specs.ifmap_graph.Out.{items_changed}

pub settle_ended-requires-clause-settle : goal.settle_ended-requires-clause-settle
settle_ended-requires-clause-settle g c =
    can_settle_later c.args.ending.made c.args.parts.now c.answer.new.parts c.requires.settle c.in-Ok.ensures.change.later

pub returns-in-Ok-clause-answer : goal.returns-in-Ok-clause-answer
returns-in-Ok-clause-answer g c =
    sym c.finish.ensures.answer ∙ ap (after_completion c.in-Ok.completion) c.settle_ended.ensures.state_now ∙ c.in-Ok.ensures.leads.leads

pub undo_made-requires-clause-steady : goal.undo_made-requires-clause-steady
undo_made-requires-clause-steady g c = c.in-Err.ensures.change.kept.back.steady

pub undo_made-requires-clause-back : goal.undo_made-requires-clause-back
undo_made-requires-clause-back g c =
    let b = c.requires.back in
    (b.0, can_back c.ways_stay.ensures c.args.ending.made b.0 c.args.parts.now c.answer.new.parts b.2 b.3 c.in-Err.ensures.change.kept)

pub returns-in-Err-clause-kept : goal.returns-in-Err-clause-kept
returns-in-Err-clause-kept g c = λ before sound numbers back.
    c.undo_made.ensures.back before sound
    (can_back c.ways_stay.ensures c.args.ending.made before c.args.parts.now c.answer.new.parts numbers back c.in-Err.ensures.change.kept)

pub returns-in-Ok-clause-lean : goal.returns-in-Ok-clause-lean
returns-in-Ok-clause-lean g c = λ before back rest l.
    c.finish.ensures.lean rest (c.settle_ended.ensures.lean rest
    (c.in-Ok.ensures.change.later.lean (items_changed c.args.ending.made.undo.plan.changes ++ rest) (back.lean rest l)))
