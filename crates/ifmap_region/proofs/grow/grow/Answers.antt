use Rattle.std.proofs.lemmas.Result.{on_ok_weaker}
use Rattle.ifmap_region.proofs.Regrow.{ready_grown, spent_grown}
use Rattle.ifmap_region.specs.Bounds.{within_nothing}
use Rattle.ifmap_region.proofs.grow.grow.Goals as goal

pub returns-in_err-seeds-clause-steps : goal.returns-in_err-seeds-clause-steps
returns-in_err-seeds-clause-steps g c start d = within_nothing _ _ _ _

pub returns-clause-depths : goal.returns-clause-depths
returns-clause-depths g c = on_ok_weaker c.spread.result
    (λ d start m. d start (ready_grown _ _ c.args.flips.now start _ _ c.requires m _ c.in_ok-seeds.ensures)) c.spread.ensures.depths

pub returns-clause-steps : goal.returns-clause-steps
returns-clause-steps g c start d = spent_grown _ _ c.args.flips.now start _ _ c.requires d _ _ _
    (c.spread.ensures.charged start (ready_grown _ _ c.args.flips.now start _ _ c.requires d _ c.in_ok-seeds.ensures))
