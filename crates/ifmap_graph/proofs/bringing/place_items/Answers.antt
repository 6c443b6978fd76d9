use Rattle.std.proofs.Common.{◌++◌, ◌∷◌, [], Bool, List, length, ap, ◌∙◌, sym, subst, arith}
use Rattle.ifmap_ident.specs.Items.{IsCanonItem}
use Rattle.ifmap_plans.specs.declared.plans.ItemChange.{ItemChange}
use Rattle.ifmap_graph.specs.Bringing.{BringsShelves, flagged_items, graph_fields}
use Rattle.ifmap_graph.specs.Out.{items_changed}
use Rattle.ifmap_graph.proofs.Accepting.{as_many, item_at}
use Rattle.ifmap_graph.proofs.Grown.{few_kept, grown_on, placed_there, places_none, places_on, begins_placing}
use Rattle.ifmap_graph.proofs.bringing.place_items.Goals as goal
use Rattle.ifmap_lemmas.specs.Members.{all_of_map}
use Rattle.ifmap_lemmas.specs.Filters.{all_at}

pub loop-change-init : goal.loop-change-init
loop-change-init c =
    begins_placing (items_changed c.args.changes.now)
    (graph_fields c.args.names.now c.args.shelves.now c.args.links.now.items) c.requires.inside c.args.fresh.now.items c.requires.none

pub place_missing-requires : goal.place_missing-requires
place_missing-requires c = record {
  inside = c.loop-change.invariant.grown.inside;
  canon = subst (λ (x : ItemChange). IsCanonItem x.item) (sym c.change-item.is)
      (all_at (λ (x : ItemChange). IsCanonItem x.item) c.args.changes.now c.loop-change.change-index c.change-item.result
      (all_of_map IsCanonItem (λ (x : ItemChange). x.item) c.args.changes.now c.requires.canon) c.loop-change-test.true);
  few = few_kept (graph_fields c.args.names.now c.args.shelves.now c.args.links.now.items)
      (graph_fields c.loop-change.names c.loop-change.shelves c.loop-change.links.items)
      c.loop-change.invariant.grown c.requires.few;
}

pub loop-change-preserved : goal.loop-change-preserved
loop-change-preserved c =
    let here = item_at c.args.changes.now c.loop-change.change-index c.change-item.result c.loop-change-test.true c.change-item.is
    in places_on (items_changed c.args.changes.now) (graph_fields c.args.names.now c.args.shelves.now c.args.links.now.items)
    (graph_fields c.loop-change.names c.loop-change.shelves c.loop-change.links.items)
    (graph_fields c.place_missing.new.names c.place_missing.new.shelves c.place_missing.new.links.items) c.loop-change.fresh.items
    c.loop-change.change-index c.loop-change.invariant c.place_missing.ensures.grown c.change-item.result.item c.in_ok-comes.comes _
    here.0 here.1
    (c.push_reserved.ensures.items ∙ ap (λ (l : List Bool). l ++ c.in_ok-comes.comes ∷ []) c.reserve.ensures.items)
    c.in_ok-comes.ensures.brought c.in_ok-comes.ensures.there

pub returns : goal.returns
returns c = record {
  grown = c.loop-change.invariant.grown;
  brought = c.loop-change.invariant.brought;
  there = placed_there (items_changed c.args.changes.now) (graph_fields c.args.names.now c.args.shelves.now c.args.links.now.items)
      (graph_fields c.loop-change.names c.loop-change.shelves c.loop-change.links.items)
      c.loop-change.fresh.items c.loop-change.change-index
      (omega (arith, c.loop-change-test.false, as_many c.args.changes.now)) c.loop-change.invariant;
  long = omega (arith, c.loop-change.invariant.long, c.loop-change.auto.change-index-end);
}

pub returns-in_err-reserve-clause-brought : goal.returns-in_err-reserve-clause-brought
returns-in_err-reserve-clause-brought c =
    subst (λ (l : List Bool). BringsShelves (flagged_items (items_changed c.args.changes.now) l) c.args.shelves.now c.loop-change.shelves)
    (sym c.reserve.ensures.items)
    c.loop-change.invariant.brought

pub returns-in_err-reserve-clause-long : goal.returns-in_err-reserve-clause-long
returns-in_err-reserve-clause-long c = omega
    (arith, ap length c.reserve.ensures.items, c.loop-change.invariant.long, c.loop-change.auto.change-index-end)

pub returns-in_err-comes-clause-grown : goal.returns-in_err-comes-clause-grown
returns-in_err-comes-clause-grown c =
    grown_on (items_changed c.args.changes.now) (graph_fields c.args.names.now c.args.shelves.now c.args.links.now.items)
    (graph_fields c.loop-change.names c.loop-change.shelves c.loop-change.links.items)
    (graph_fields c.place_missing.new.names c.place_missing.new.shelves c.place_missing.new.links.items) c.loop-change.fresh.items
    c.loop-change.change-index c.loop-change.invariant c.place_missing.ensures.grown

pub returns-in_err-comes-clause-brought : goal.returns-in_err-comes-clause-brought
returns-in_err-comes-clause-brought c =
    subst (λ (l : List Bool). BringsShelves (flagged_items (items_changed c.args.changes.now) l) c.args.shelves.now
    c.place_missing.new.shelves)
    (sym c.reserve.ensures.items)
    (places_none (items_changed c.args.changes.now) (graph_fields c.args.names.now c.args.shelves.now c.args.links.now.items)
    (graph_fields c.loop-change.names c.loop-change.shelves c.loop-change.links.items)
    (graph_fields c.place_missing.new.names c.place_missing.new.shelves c.place_missing.new.links.items) c.loop-change.fresh.items
    c.loop-change.change-index c.loop-change.invariant c.place_missing.ensures.grown c.in_err-comes.ensures.none)

pub returns-in_err-comes-clause-long : goal.returns-in_err-comes-clause-long
returns-in_err-comes-clause-long c = omega
    (arith, ap length c.reserve.ensures.items, c.loop-change.invariant.long, c.loop-change.auto.change-index-end)
