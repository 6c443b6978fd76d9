use Rattle.std.proofs.Common.{◌∙◌, ap, subst}
use Rattle.ifmap_ident.specs.Items.{IsCanonItem}
use Rattle.ifmap_lemmas.specs.Having.{all_has, has_all, Has, has_map}
use Rattle.ifmap_plans.specs.Plans.{list_after}
use Rattle.ifmap_view.specs.Rows.{stored_on}
use Rattle.ifmap_delta.specs.Touched.{IsChanged, IsPaired}
use Rattle.ifmap_delta.specs.declared.pairing.TouchedItem.{TouchedItem}
use Rattle.ifmap_delta.proofs.differing.differences_on.Goals as goal

pub differences_of-requires-clause-canon : goal.differences_of-requires-clause-canon
differences_of-requires-clause-canon g c =
    let touched = c.in_ok-touched.touched.items
    in has_all (λ (t : TouchedItem). IsCanonItem t.item) touched
    (λ t h. c.requires.canon t.item (subst (λ l. Has l t.item) c.in_ok-touched.ensures.items
    (has_map (λ (t : TouchedItem). t.item) touched t h)))

pub differences_of-requires-clause-changes : goal.differences_of-requires-clause-changes
differences_of-requires-clause-changes g c =
    let touched = c.in_ok-touched.touched.items
    in let old = g.G.View.rows c.args.before.now.view.now
    in let new = g.D.View.rows c.args.after.now.view.now
    in let changes = c.args.changes.now
    in has_all (IsChanged old new changes) touched
    (λ t h. c.requires.change t.item
    ∙ ap (λ o. list_after o (stored_on t.item old)) (all_has (IsPaired changes 0) touched c.in_ok-touched.ensures.paired t h))
