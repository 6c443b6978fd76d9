use Rattle.std.proofs.Common.{◌≡◌, ◌++◌}
use Rattle.std.specs.List.{AllByRecursion}
use Rattle.ifmap_ident.specs.Items.{IsCanonItem}
use Rattle.ifmap_delta.specs.Shown.{shown_on}
use Rattle.ifmap_delta.specs.Touched.{IsChanged, items_touched, surplus_on}
use Rattle.ifmap_delta.proofs.differing.differences_of.Given as goal

-- what was told so far, before what is left to be told, is all
abbrev pub invariant-loop-one : goal.invariant-loop-one
invariant-loop-one g l =
    let was = shown_on (g.G.View.rows l.before.view.now) l.before.search.now
    in let now = shown_on (g.D.View.rows l.after.view.now) l.after.search.now
    in let filter = l.after.search.now.result_filter
    in record {
      deleted : l.told.deleted.items ++ surplus_on filter was now (items_touched l.one-iterator.rest.items)
          ≡ surplus_on filter was now (items_touched l.fn.touched.items);
      updated : l.told.updated.items ++ surplus_on filter now was (items_touched l.one-iterator.rest.items)
          ≡ surplus_on filter now was (items_touched l.fn.touched.items);
      canon : AllByRecursion (λ t. IsCanonItem t.item) l.one-iterator.rest.items;
      changes : AllByRecursion (IsChanged (g.G.View.rows l.before.view.now) (g.D.View.rows l.after.view.now) l.changes)
          l.one-iterator.rest.items;
    }
