use Rattle.std.proofs.Common.{◌∙◌, ap}
use Rattle.ifmap_delta.specs.Shown.{goes_on}
use Rattle.ifmap_delta.specs.SeenViews.{view_seen}
use Rattle.ifmap_delta.proofs.Marking.{expanded_at_number, unexpanded_without_number}
use Rattle.ifmap_delta.proofs.sides.Side.is_expanded.Goals as goal

pub returns-in-Some : goal.returns-in-Some
returns-in-Some g c = λ a i n.
    let view = c.args.self.now.view.now
    in let s = c.args.self.now.search.now
    in c.goes_on.ensures ∙ ap (goes_on s (g.V.View.id_at view c.in-Some.number)) c.mark_at.ensures
    ∙ expanded_at_number c.levels_are_walks.ensures.reached c.levels_are_walks.ensures.expanded c.numbers_keep_walks.ensures
    (view_seen g.V.View.rows g.V.View.id_at g.V.View.links view) s c.requires.view (g.M.Marks.mark c.args.self.now.marks.now)
    c.requires.marks a i c.args.number n c.in-Some.number c.in-Some.is

pub returns-in-None : goal.returns-in-None
returns-in-None g c = λ a i n.
    unexpanded_without_number c.levels_are_walks.ensures.reached c.levels_are_walks.ensures.expanded c.numbers_keep_walks.ensures
    (view_seen g.V.View.rows g.V.View.id_at g.V.View.links c.args.self.now.view.now) c.args.self.now.search.now c.requires.view
    (g.M.Marks.mark c.args.self.now.marks.now) c.requires.marks a i c.args.number n c.in-None.is
