use Rattle.std.proofs.Common.{◌+◌, ◌∙◌, arith, drop}
use Rattle.std.proofs.lemmas.List.{drop_more, drop_all}
use Rattle.ifmap_region.proofs.Falling.{charged_fewer}
use Rattle.ifmap_region.proofs.spread.visit_level.Goals as goal

pub loop-number-preserved : goal.loop-number-preserved
loop-number-preserved g c =
    let at = drop_more c.args.now.now c.loop-number.number-index 0 c.loop-number-test.true in
    record {
      rows = λ v e. c.loop-number.invariant.rows v (c.visit.ensures.rows v e);
      still = λ le. c.visit.ensures.still le ∙ c.loop-number.invariant.still le;
      falls = λ start seeds r. c.in_ok-visit.ensures.falls start (drop (c.loop-number.number-index + 1) c.args.now.now) seeds
          (rw at at (c.loop-number.invariant.falls start seeds r));
      charged = λ start before seeds first r ch.
          c.visit.ensures.charged start before (drop (c.loop-number.number-index + 1) c.args.now.now) seeds first
          (rw at at (c.loop-number.invariant.falls start seeds r)) (rw at at (c.loop-number.invariant.charged start before seeds first r
          ch));
    }

pub returns-in_err-visit-clause-charged : goal.returns-in_err-visit-clause-charged
returns-in_err-visit-clause-charged g c start before seeds first r ch =
    let at = drop_more c.args.now.now c.loop-number.number-index 0 c.loop-number-test.true in
    charged_fewer _ _ start _ _ first _ _ before _ _ (omega arith)
    (c.visit.ensures.charged start before (drop (c.loop-number.number-index + 1) c.args.now.now) seeds first
    (rw at at (c.loop-number.invariant.falls start seeds r)) (rw at at (c.loop-number.invariant.charged start before seeds first r ch)))

pub returns-clause-falls : goal.returns-clause-falls
returns-clause-falls g c start seeds r =
    rw (drop_all c.loop-number.number-index c.args.now.now (omega (arith, c.loop-number-test.false))) at
    (c.loop-number.invariant.falls start seeds r)

pub returns-clause-charged : goal.returns-clause-charged
returns-clause-charged g c start before seeds first r ch =
    charged_fewer _ _ start _ _ first _ _ before _ _ (omega arith) (c.loop-number.invariant.charged start before seeds first r ch)

pub returns-in_err-visit-clause-still : goal.returns-in_err-visit-clause-still
returns-in_err-visit-clause-still g c le = c.visit.ensures.still le ∙ c.loop-number.invariant.still le
