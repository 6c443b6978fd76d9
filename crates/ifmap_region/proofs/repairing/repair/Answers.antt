use Rattle.std.proofs.Common.{◌+◌}
use Rattle.ifmap_region.specs.Bounds.{IsWithin, within_nothing}
use Rattle.ifmap_region.specs.DepthLaws.{depths_same}
use Rattle.ifmap_region.specs.Flips.{OldLinks}
use Rattle.ifmap_region.specs.Links.{links_of}
use Rattle.ifmap_region.specs.Marks.{mark_of, mark_over}
use Rattle.ifmap_region.specs.Near.{NearFlips}
use Rattle.ifmap_region.specs.Walks.{AreDepths}
use Rattle.ifmap_region.proofs.Patches.{over_differing}
use Rattle.ifmap_region.proofs.Repairs.{spent_cutting, spent_repairing, cut_left}
use Rattle.ifmap_region.proofs.repairing.repair.Given as given
use Rattle.ifmap_region.proofs.repairing.repair.Goals as goal
use Rattle.ifmap_region.proofs.repairing.repair.Goals.{After-grow}

-- the steps of the cut and of the growth, whatever comes after it
spent : (g : given.Over) (c : After-grow g)
    → AreDepths (OldLinks (links_of (g.G.LinkSource.seen c.args.graph.now)) c.args.flips.now)
    (g.G.LinkSource.seen c.args.graph.now).terminal c.args.region.now.start c.args.region.now.max_depth
    (mark_of c.args.region.now.marks.entries)
    → IsWithin (λ v. 1 + (g.G.LinkSource.seen c.args.graph.now).count v)
    (NearFlips (links_of (g.G.LinkSource.seen c.args.graph.now)) c.args.flips.now
    (g.G.LinkSource.seen c.args.graph.now).terminal c.args.region.now.start c.args.region.now.max_depth) 5 c.args.steps.now c.grow.new.steps
spent g c d =
    let h = c.in_ok-hidden.ensures in
    let from = c.args.region.now.start in
    spent_repairing _ _ c.in_ok-hidden.hidden _ _ from _ _ h.only h.each h.turned d c.requires.symmetric _ _ _ _ (c.cut.ensures.steps from)
    (c.in_ok-rows.ensures.depths from) (c.grow.ensures.steps from)

pub returns-in_err-hidden-clause-steps : goal.returns-in_err-hidden-clause-steps
returns-in_err-hidden-clause-steps g c d = within_nothing _ _ _ _

pub returns-in_err-rows-clause-steps : goal.returns-in_err-rows-clause-steps
returns-in_err-rows-clause-steps g c d =
    let h = c.in_ok-hidden.ensures in
    let from = c.args.region.now.start in
    spent_cutting _ _ c.in_ok-hidden.hidden _ _ from _ _ h.only h.each h.turned d c.requires.symmetric _ _ (c.cut.ensures.steps from)

pub returns-in_err-grow-clause-steps : goal.returns-in_err-grow-clause-steps
returns-in_err-grow-clause-steps g c d = spent g (goal.at.returns-in_err-grow-clause-steps g c).After-grow d

pub returns-in_err-rows-2-clause-steps : goal.returns-in_err-rows-2-clause-steps
returns-in_err-rows-2-clause-steps g c d = spent g (goal.at.returns-in_err-rows-2-clause-steps g c).After-grow d

pub returns-clause-steps : goal.returns-clause-steps
returns-clause-steps g c d = spent g (goal.at.returns-clause-steps g c).After-grow d

pub returns-clause-depths : goal.returns-clause-depths
returns-clause-depths g c d =
    let h = c.in_ok-hidden.ensures in
    let from = c.args.region.now.start in
    let below = mark_of c.args.region.now.marks.entries in
    depths_same _ _ from _ (mark_over c.grow.new.rows.entries below) _
    (over_differing c.grow.new.rows.entries c.args.region.now.marks.entries _ c.in_ok-rows-2.ensures.only c.in_ok-rows-2.ensures.each)
    (c.in_ok-grow.ensures.depths from
    (cut_left _ _ c.in_ok-hidden.hidden _ _ from _ _ h.only h.each h.turned d c.requires.symmetric _ (c.in_ok-rows.ensures.depths from)))
