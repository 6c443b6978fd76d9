use Rattle.std.proofs.Common.{◌∙◌, ap, subst, sym}
use Rattle.std.specs.BTreeMap.{get}
use Rattle.ifmap_ident.specs.Items.{IsCanonItem, item_order}
use Rattle.ifmap_view.specs.Rows.{stored_on}
use Rattle.ifmap_publish.specs.OnItems.{op_item, op_on}
use Rattle.ifmap_publish.specs.Working.{IsEdit, edit_or, list_by}
use Rattle.ifmap_publish.proofs.Editing.{is_edit}
use Rattle.ifmap_publish.proofs.Entries.{edit_found, edits_inserted, fit_item, op_applied}
use Rattle.ifmap_publish.proofs.Graphs.{sound_on}
use Rattle.ifmap_publish.proofs.working.apply_one.Goals as goal

pub apply_op-requires-clause-edit : goal.apply_op-requires-clause-edit
apply_op-requires-clause-edit g c =
    let rows = g.V.View.rows c.args.view.now in
    let item = op_item c.args.op.now in
    subst (IsEdit (stored_on item rows))
    (sym (c.take_edit-edit.ensures.edit ∙ ap (λ i. edit_or (get item_order c.args.edits.now i)) c.item_of_op-item.ensures))
    (edit_found rows item c.args.edits.now.entries (sound_on item rows c.requires.graph c.requires.whole) c.requires.edits)

pub returns-clause-edits : goal.returns-clause-edits
returns-clause-edits g c =
    let rows = g.V.View.rows c.args.view.now in
    let item = op_item c.args.op.now in
    let key = c.in_ok-copy.ensures ∙ c.item_of_op-item.ensures in
    rw c.in_ok-insert.ensures.entries
    (edits_inserted rows c.take_edit-edit.new.edits.entries c.in_ok-copy.field-0 c.apply_op.new.edit
    (subst IsCanonItem (sym key) (fit_item c.args.op.now c.requires.fit))
    (subst (λ i. IsEdit (stored_on i rows) c.apply_op.new.edit) (sym key)
    (is_edit (stored_on item rows) (op_on c.args.author.now c.args.op.now (list_by c.take_edit-edit.result (stored_on item rows)))
    c.apply_op.new.edit c.in_ok-apply_op.ensures))
    (c.take_edit-edit.ensures.left rows c.requires.edits))

pub returns-clause-applied : goal.returns-clause-applied
returns-clause-applied g c x =
    op_applied (g.V.View.rows c.args.view.now) c.args.author.now c.args.op.now c.args.edits.now.entries
    (get item_order c.take_edit-edit.new.edits) (get item_order c.insert.new.self) c.in_ok-copy.field-0 c.take_edit-edit.result
    c.apply_op.new.edit (c.in_ok-copy.ensures ∙ c.item_of_op-item.ensures)
    (c.take_edit-edit.ensures.edit ∙ ap (λ i. edit_or (get item_order c.args.edits.now i)) c.item_of_op-item.ensures)
    (rw c.item_of_op-item.ensures at c.take_edit-edit.ensures.others) c.in_ok-insert.ensures.updates.0 c.in_ok-apply_op.ensures x
