use Rattle.std.proofs.Common.{◌∙◌}
use Rattle.ifmap_lemmas.specs.Keeping.{kept_moved, kept_passed}
use Rattle.ifmap_core.proofs.completions.keep_others.Goals as goal
use Rattle.ifmap_core.proofs.completions.keep_others.Goals.{then-not-gone-at, else-not-gone-at}

pub loop-at-preserved : goal.loop-at-preserved
loop-at-preserved c = elim c.if-not-gone-at.branch [
  | then-not-gone-at w ↦ rw (w.standing-is, w.count-is) (record {
    kept = kept_moved c.args.gone.now c.args.standing.now.items c.loop-at.standing.items w.swap.new.self.items c.loop-at.count c.loop-at.at
        c.loop-at.invariant.kept c.loop-at-test.true w.if-not-gone-at.true w.swap.ensures.by_index;
    len = w.swap.ensures.len ∙ c.loop-at.invariant.len;
    capacity = w.swap.ensures.capacity ∙ c.loop-at.invariant.capacity;
  })
  | else-not-gone-at w ↦ rw (w.standing-is, w.count-is) (record {
    kept = kept_passed c.args.gone.now c.args.standing.now.items c.loop-at.standing.items c.loop-at.count c.loop-at.at
        c.loop-at.invariant.kept c.loop-at-test.true w.if-not-gone-at.false;
    len = c.loop-at.invariant.len;
    capacity = c.loop-at.invariant.capacity;
  })
]
