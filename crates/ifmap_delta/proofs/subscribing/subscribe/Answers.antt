use Rattle.std.proofs.Common.{length}
use Rattle.ifmap_fresh.specs.Linking.{IsReachedAt}
use Rattle.ifmap_region.specs.Bounds.{within_both}
use Rattle.ifmap_delta.proofs.subscribing.subscribe.Goals as goal

pub returns-in_err-region-clause-steps : goal.returns-in_err-region-clause-steps
returns-in_err-region-clause-steps g c =
    let view = c.args.view.now
    in within_both (λ v. length (g.V.View.links view v)) (IsReachedAt (g.V.View.rows view) (g.V.View.id_at view) c.args.search) 3 1
    c.args.steps.now c.fresh.new.steps c.region_of.new.steps c.fresh.ensures.steps c.region_of.ensures.steps

pub returns-clause-steps : goal.returns-clause-steps
returns-clause-steps g c =
    let view = c.args.view.now
    in within_both (λ v. length (g.V.View.links view v)) (IsReachedAt (g.V.View.rows view) (g.V.View.id_at view) c.args.search) 3 1
    c.args.steps.now c.fresh.new.steps c.region_of.new.steps c.fresh.ensures.steps c.region_of.ensures.steps
