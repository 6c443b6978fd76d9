use Rattle.std.proofs.Common.{take, get_or, arith}
use Rattle.std.proofs.lemmas.List.{take_more}
use Rattle.std.proofs.lemmas.List.Sums.{sum_by_push}
use Rattle.ifmap_region.proofs.Regrow.{reseeds_more}
use Rattle.ifmap_region.proofs.cut.reseed.Goals as goal

pub loop-number-preserved : goal.loop-number-preserved
loop-number-preserved g c =
    let at = take_more c.args.gone.now c.loop-number.number-index 0 c.loop-number-test.true in
    rw at record {
      seeds = reseeds_more _ _ _ _ (take c.loop-number.number-index c.args.gone.now) (get_or c.args.gone.now c.loop-number.number-index
          0) _ _ c.lowest_level-level.result
          c.in_ok-offer.ensures c.lowest_level-level.ensures.only c.lowest_level-level.ensures.least c.loop-number.invariant.seeds;
      steps = omega (
        arith,
        c.lowest_level-level.ensures.steps,
        c.loop-number.invariant.steps,
        sum_by_push (g.G.LinkSource.seen c.args.basis.now.graph.now).count (take c.loop-number.number-index c.args.gone.now)
            (get_or c.args.gone.now
            c.loop-number.number-index 0),
      );
    }
