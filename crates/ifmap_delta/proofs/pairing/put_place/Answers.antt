use Rattle.std.proofs.Common.{rules, ◌≡◌, ◌∙◌, ap, refl, sym, subst, true, false, ◌<◌, length, get_or}
use Rattle.std.proofs.lemmas.List.{get_or_read}
use Rattle.std.specs.List.{list_any}
use Rattle.ifmap_ident.specs.Items.{same_item}
use Rattle.ifmap_plans.specs.declared.plans.ItemChange.{ItemChange}
use Rattle.ifmap_delta.specs.declared.pairing.TouchedItem.{TouchedItem}
use Rattle.ifmap_delta.proofs.Beside.{none_paired, same_items, set_paired}
use Rattle.ifmap_delta.proofs.pairing.put_place.Goals as goal

pub returns-in-Some-clause-items : goal.returns-in-Some-clause-items
returns-in-Some-clause-items c =
    let touched = c.args.touched.now.items
    in let at = c.in-Some.at
    in let one = c.set_place.new.self
    in let low : at < length touched = search rules
    in let here = get_or_read touched at c.index_mut.result.now low c.index_mut.ensures.value one
    in same_items touched at one (c.set_place.ensures.item ∙ ap (λ (t : TouchedItem). t.item) here)

pub returns-in-Some-clause-paired : goal.returns-in-Some-clause-paired
returns-in-Some-clause-paired c paired =
    let touched = c.args.touched.now.items
    in let at = c.in-Some.at
    in let one = c.set_place.new.self
    in let change = c.index-changes-place.result
    in let low : at < length touched = search rules
    in let here = get_or_read touched at c.index_mut.result.now low c.index_mut.ensures.value one
    in let opened : c.deref.result.now ≡ touched = search rules
    in let same : same_item change.item (get_or touched at one).item ≡ true
    = subst (λ ts. same_item change.item (get_or ts at one).item ≡ true) opened
    (subst (λ (d : ItemChange). same_item d.item (get_or c.deref.result.now at one).item ≡ true) (sym c.index-changes-place.is)
    (c.in-Some.ensures.same one))
    in set_paired c.args.changes.now c.args.place change c.requires.place c.index-changes-place.is touched at one c.requires.rising low same
    (c.set_place.ensures.item ∙ ap (λ (t : TouchedItem). t.item) here) c.set_place.ensures.place paired

pub returns-in-None-clause-paired : goal.returns-in-None-clause-paired
returns-in-None-clause-paired c paired =
    let touched = c.args.touched.now.items
    in let changes = c.args.changes.now
    in let change = c.index-changes-place.result
    in let opened : c.deref.result.now ≡ touched = search rules
    in let none : list_any (λ (t : TouchedItem). same_item (get_or changes c.args.place change).item t.item) c.deref.result.now ≡ false
    = c.in-None.ensures.none refl
    in none_paired changes c.args.place change c.requires.place c.index-changes-place.is touched
    (subst (λ (d : ItemChange). list_any (λ (t : TouchedItem). same_item d.item t.item) touched ≡ false) (sym c.index-changes-place.is)
    (subst (λ ts. list_any (λ (t : TouchedItem). same_item (get_or changes c.args.place change).item t.item) ts ≡ false) opened none))
    paired
