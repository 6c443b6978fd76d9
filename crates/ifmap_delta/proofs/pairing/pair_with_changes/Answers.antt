use Rattle.std.proofs.Common.{◌≡◌, ◌∙◌, ap, sym, subst, refl, arith, ◌+◌, ◌-◌, length}
use Rattle.std.specs.List.{AllByRecursion}
use Rattle.std.specs.List.Sorted.{IsStrictlySortedBy}
use Rattle.ifmap_ident.specs.Items.{item_order}
use Rattle.ifmap_delta.specs.Touched.{IsPaired, items_touched}
use Rattle.ifmap_delta.proofs.Beside.{items_unpaired, unpaired_paired}
use Rattle.ifmap_delta.proofs.pairing.pair_with_changes.Goals as goal

pub loop-place-init : goal.loop-place-init
loop-place-init c =
    let changes = c.args.changes.now
    in let items = c.args.items.items
    in record {
      within = omega arith;
      items = ap items_touched c.in_ok-touched.ensures ∙ items_unpaired items;
      paired = subst (AllByRecursion (IsPaired changes (length changes))) (sym c.in_ok-touched.ensures)
          (unpaired_paired changes (length changes) refl items);
    }

pub put_place-requires-clause-rising : goal.put_place-requires-clause-rising
put_place-requires-clause-rising c = subst (IsStrictlySortedBy item_order) (sym c.loop-place.invariant.items) c.requires

pub put_place-requires-clause-place : goal.put_place-requires-clause-place
put_place-requires-clause-place c = omega (arith, c.loop-place-test.true, c.loop-place.invariant.within)

pub loop-place-preserved : goal.loop-place-preserved
loop-place-preserved c =
    let changes = c.args.changes.now
    in let place = c.loop-place.place
    in let one_less : place ≡ (place - 1) + 1 = omega (arith, c.loop-place-test.true)
    in record {
      within = omega (arith, c.loop-place.invariant.within);
      items = c.put_place.ensures.items ∙ c.loop-place.invariant.items;
      paired = c.put_place.ensures.paired
          (subst (λ n. AllByRecursion (IsPaired changes n) c.loop-place.touched.items) one_less c.loop-place.invariant.paired);
    }
