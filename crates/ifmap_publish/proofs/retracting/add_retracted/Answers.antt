use Rattle.std.proofs.Common.{◌∙◌, ap, List, [], ◌∷◌, ◌++◌}
use Rattle.std.specs.List.{filter}
use Rattle.ifmap_meta.specs.declared.stored.Stored.{Stored}
use Rattle.ifmap_view.specs.Rows.{stored_on}
use Rattle.ifmap_publish.specs.Retract.{is_of, retract_on}
use Rattle.ifmap_publish.specs.Working.{change_to}
use Rattle.ifmap_publish.proofs.Changing.{none_added, one_added}
use Rattle.ifmap_publish.proofs.Retracted.{comes, goes}
use Rattle.ifmap_publish.proofs.retracting.add_retracted.Goals as goal

pub returns-then-not-moves_something : goal.returns-then-not-moves_something
returns-then-not-moves_something g c =
    let there : List Stored = stored_on c.args.item.now (g.V.View.rows c.args.view.now) in
    none_added (change_to (g.V.View.rows c.args.view.now) (c.args.item.now, retract_on c.args.who.now there))
    c.in_ok-removed.removed.items c.new-added.result.items c.args.changes.now.items
    (c.in_ok-removed.ensures ∙ ap (filter (is_of c.args.who.now)) c.stored_at.ensures ∙ goes c.args.who.now there)
    (c.new-added.ensures.items ∙ comes c.args.who.now there)
    (rw (c.deref.ensures.value, c.deref-2.ensures.value) at c.if-not-moves_something.ensures.no)

pub returns : goal.returns
returns g c =
    let there : List Stored = stored_on c.args.item.now (g.V.View.rows c.args.view.now) in
    c.in_ok-push.ensures.items
    ∙ (λ i. c.args.changes.now.items ++ record {
      item = c.in_ok-copy.ensures i;
      removed = c.in_ok-removed.removed.items;
      added = c.new-added.result.items;
    } ∷ [])
    ∙ one_added (change_to (g.V.View.rows c.args.view.now) (c.args.item.now, retract_on c.args.who.now there))
    c.in_ok-removed.removed.items c.new-added.result.items c.args.changes.now.items
    (c.in_ok-removed.ensures ∙ ap (filter (is_of c.args.who.now)) c.stored_at.ensures ∙ goes c.args.who.now there)
    (c.new-added.ensures.items ∙ comes c.args.who.now there)
    (rw (c.deref.ensures.value, c.deref-2.ensures.value) at c.if-not-moves_something.ensures.yes)
