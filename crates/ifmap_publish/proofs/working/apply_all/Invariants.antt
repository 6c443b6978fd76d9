use Rattle.std.proofs.Common.{◌≡◌, take}
use Rattle.std.specs.BTreeMap.{get}
use Rattle.ifmap_ident.specs.declared.items.Item.{Item}
use Rattle.ifmap_ident.specs.Items.{item_order}
use Rattle.ifmap_view.specs.Rows.{stored_on}
use Rattle.ifmap_publish.specs.Apply.{apply}
use Rattle.ifmap_publish.specs.Working.{AreEdits, working_rows}
use Rattle.ifmap_publish.proofs.working.apply_all.Given as goal

-- what is to stand on each item is what the operations so far make of it
abbrev pub invariant-loop-op : goal.invariant-loop-op
invariant-loop-op g l = record {
  edits : AreEdits (g.V.View.rows l.view) l.edits.entries;
  applied : (x : Item) → working_rows (g.V.View.rows l.view) (get item_order l.edits) x
      ≡ stored_on x (apply (g.V.View.rows l.view) l.author (take l.op-index l.ops));
}
