use Rattle.std.proofs.Common.{◌∙◌, ap, cond, sym, None}
use Rattle.std.specs.BTreeMap.{get, is_at}
use Rattle.ifmap_ident.specs.Items.{item_order, items_tie}
use Rattle.ifmap_publish.specs.Working.{edit_or}
use Rattle.ifmap_publish.proofs.Entries.{edits_removed}
use Rattle.ifmap_publish.proofs.working.take_edit.Goals as goal

pub returns-in-Some-clause-edit : goal.returns-in-Some-clause-edit
returns-in-Some-clause-edit c = ap edit_or c.in-Some.ensures.value

pub returns-in-Some-clause-left : goal.returns-in-Some-clause-left
returns-in-Some-clause-left c rows all =
    rw c.remove.ensures.entries (edits_removed rows (is_at (item_order c.args.item.now)) c.args.edits.now.entries all)

pub returns-in-Some-clause-others : goal.returns-in-Some-clause-others
returns-in-Some-clause-others c x differ =
    c.remove.ensures.updates.0 x
    ∙ ap (λ b. cond b None (get item_order c.args.edits.now x)) (sym (items_tie c.args.item.now x) ∙ differ)

pub returns-in-None-clause-edit : goal.returns-in-None-clause-edit
returns-in-None-clause-edit c =
    (λ i. record { taken = c.no_edit.ensures.taken i; put = c.no_edit.ensures.put i }) ∙ ap edit_or c.in-None.ensures.value
