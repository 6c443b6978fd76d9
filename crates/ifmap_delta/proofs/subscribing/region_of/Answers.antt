use Rattle.ifmap_delta.specs.SeenViews.{view_seen}
use Rattle.ifmap_delta.proofs.Marking.{marks_are, steps_at}
use Rattle.ifmap_delta.proofs.subscribing.region_of.Goals as goal

pub returns-clause-marks : goal.returns-clause-marks
returns-clause-marks g c =
    marks_are (view_seen g.V.View.rows g.V.View.id_at g.V.View.links c.args.view.now) c.args.search.now c.args.start
    c.requires.identifier c.requires.start c.build.result c.build.ensures.start c.build.ensures.max_depth c.build.ensures.depths

pub returns-clause-steps : goal.returns-clause-steps
returns-clause-steps g c =
    let view = c.args.view.now
    in steps_at (view_seen g.V.View.rows g.V.View.id_at g.V.View.links view) c.args.search.now c.args.start
    (c.numbers_keep_walks.ensures (g.V.View.rows view) (g.V.View.id_at view) (g.V.View.links view) c.args.search.now c.args.start
    c.number.ensures.whole c.requires.start)
    1 c.args.steps.now c.build.new.steps c.build.ensures.steps
