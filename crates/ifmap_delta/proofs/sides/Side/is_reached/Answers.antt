use Rattle.std.proofs.Common.{◌∙◌, ap, is_some}
use Rattle.ifmap_delta.specs.SeenViews.{view_seen}
use Rattle.ifmap_delta.proofs.Marking.{reached_at_number, unreached_without_number}
use Rattle.ifmap_delta.proofs.sides.Side.is_reached.Goals as goal

pub returns-in-Some : goal.returns-in-Some
returns-in-Some g c = λ a i n.
    c.is_some.ensures ∙ ap is_some c.mark_at.ensures
    ∙ reached_at_number c.levels_are_walks.ensures.reached c.levels_are_walks.ensures.expanded c.numbers_keep_walks.ensures
    (view_seen g.V.View.rows g.V.View.id_at g.V.View.links c.args.self.now.view.now) c.args.self.now.search.now c.requires.view
    (g.M.Marks.mark c.args.self.now.marks.now) c.requires.marks a i c.args.number n c.in-Some.number c.in-Some.is

pub returns-in-None : goal.returns-in-None
returns-in-None g c = λ a i n.
    unreached_without_number c.levels_are_walks.ensures.reached c.levels_are_walks.ensures.expanded c.numbers_keep_walks.ensures
    (view_seen g.V.View.rows g.V.View.id_at g.V.View.links c.args.self.now.view.now) c.args.self.now.search.now c.requires.view
    (g.M.Marks.mark c.args.self.now.marks.now) c.requires.marks a i c.args.number n c.in-None.is
