use Rattle.std.proofs.Common.{◌∙◌}
use Rattle.ifmap_publish.specs.Working.{change_by}
use Rattle.ifmap_publish.proofs.Changing.{difference_of, none_added, one_added}
use Rattle.ifmap_publish.proofs.publishing.add_change.Goals as goal

pub returns-then-not-moves_something : goal.returns-then-not-moves_something
returns-then-not-moves_something c =
    none_added (change_by c.args.entry) c.in_ok-removed.removed.items c.in_ok-added.added.items c.args.changes.now.items
    (difference_of _ _ c.args.entry.1.taken c.args.entry.1.put _ c.in_ok-removed.ensures c.as_slice.ensures c.as_slice-2.ensures.rows)
    (difference_of _ _ c.args.entry.1.put c.args.entry.1.taken _ c.in_ok-added.ensures c.as_slice-3.ensures.rows c.as_slice-4.ensures)
    (rw (c.deref.ensures.value, c.deref-2.ensures.value) at c.if-not-moves_something.ensures.no)

pub returns : goal.returns
returns c =
    c.in_ok-push.ensures.items
    ∙ one_added (change_by c.args.entry) c.in_ok-removed.removed.items c.in_ok-added.added.items c.args.changes.now.items
    (difference_of _ _ c.args.entry.1.taken c.args.entry.1.put _ c.in_ok-removed.ensures c.as_slice.ensures c.as_slice-2.ensures.rows)
    (difference_of _ _ c.args.entry.1.put c.args.entry.1.taken _ c.in_ok-added.ensures c.as_slice-3.ensures.rows c.as_slice-4.ensures)
    (rw (c.deref.ensures.value, c.deref-2.ensures.value) at c.if-not-moves_something.ensures.yes)
