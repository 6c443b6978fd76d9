use Rattle.std.proofs.Common.{◌+◌, ◌∙◌, arith, drop}
use Rattle.std.proofs.lemmas.List.{drop_more, drop_all}
use Rattle.ifmap_region.proofs.Cuts.{spent_now}
use Rattle.ifmap_region.proofs.lose.look_level.Goals as goal

pub loop-number-preserved : goal.loop-number-preserved
loop-number-preserved g c =
    let at = drop_more c.args.now.now c.loop-number.number-index 0 c.loop-number-test.true in
    record {
      still = λ le. c.look.ensures.still le ∙ c.loop-number.invariant.still le;
      keeps = λ flips start before seeds b s. c.in_ok-look.ensures.keeps flips start before (drop (c.loop-number.number-index + 1)
          c.args.now.now) seeds b (rw at at (c.loop-number.invariant.keeps flips start before seeds b s));
    }

pub returns-in_err-look-clause-spent : goal.returns-in_err-look-clause-spent
returns-in_err-look-clause-spent g c flips start before seeds b s =
    let at = drop_more c.args.now.now c.loop-number.number-index 0 c.loop-number-test.true in
    c.look.ensures.spent flips start before (drop (c.loop-number.number-index + 1) c.args.now.now) seeds (rw at at
    (c.loop-number.invariant.keeps flips start before seeds b s))

pub returns-in_err-look-clause-still : goal.returns-in_err-look-clause-still
returns-in_err-look-clause-still g c le = c.look.ensures.still le ∙ c.loop-number.invariant.still le

pub returns-clause-keeps : goal.returns-clause-keeps
returns-clause-keeps g c flips start before seeds b s =
    rw (drop_all c.loop-number.number-index c.args.now.now (omega (arith, c.loop-number-test.false))) at (c.loop-number.invariant.keeps
    flips start before seeds b s)

pub returns-clause-spent : goal.returns-clause-spent
returns-clause-spent g c flips start before seeds b s =
    spent_now _ _ _ flips start _ _ _ _ seeds c.args.level before _ _ _ (c.loop-number.invariant.keeps flips start before seeds b s)
