use Rattle.std.proofs.Common.{refl, inl, inr, sym, ◌∙◌}
use Rattle.ifmap_region.specs.Marks.{mark_of}
use Rattle.ifmap_region.proofs.Overs.{over_here, over_apart}
use Rattle.ifmap_region.proofs.spread.enqueue.Goals as goal

pub returns-then-is_within-clause-ok : goal.returns-then-is_within-clause-ok
returns-then-is_within-clause-ok c =
    let m = c.is_within.ensures.yes c.if-is_within.true in inl ((m.0, m.2, sym c.mark.ensures ∙ m.1), refl, refl)

pub returns-in_err-push-clause-part : goal.returns-in_err-push-clause-part
returns-in_err-push-clause-part c = inr (record {
  here = over_here _ _ (mark_of c.args.base.now.entries) _ _ c.in_ok-put.ensures.put;
  others = over_apart _ _ (mark_of c.args.base.now.entries) _ _ c.in_ok-put.ensures.put;
  lower = λ j e. c.is_within.ensures.no c.if-is_within.false j (c.mark.ensures ∙ e);
})

pub returns-clause-ok : goal.returns-clause-ok
returns-clause-ok c = inr (
  record {
    here = over_here _ _ (mark_of c.args.base.now.entries) _ _ c.in_ok-put.ensures.put;
    others = over_apart _ _ (mark_of c.args.base.now.entries) _ _ c.in_ok-put.ensures.put;
    lower = λ j e. c.is_within.ensures.no c.if-is_within.false j (c.mark.ensures ∙ e);
  },
  c.in_ok-push.ensures.items,
)

pub returns-clause-part : goal.returns-clause-part
returns-clause-part c = inr (record {
  here = over_here _ _ (mark_of c.args.base.now.entries) _ _ c.in_ok-put.ensures.put;
  others = over_apart _ _ (mark_of c.args.base.now.entries) _ _ c.in_ok-put.ensures.put;
  lower = λ j e. c.is_within.ensures.no c.if-is_within.false j (c.mark.ensures ∙ e);
})
