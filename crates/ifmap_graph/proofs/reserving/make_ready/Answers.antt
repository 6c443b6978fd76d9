use Rattle.std.proofs.Common.{◌≤◌, Bool, List, length, ap, ◌∙◌, sym, subst}
use Rattle.std.proofs.lemmas.Result.{on_err_weaker, on_ok_weaker}
use Rattle.ifmap_graph.specs.Bringing.{BringsShelves, flagged_items, graph_fields}
use Rattle.ifmap_graph.specs.Out.{items_changed}
use Rattle.ifmap_graph.specs.Shelved.{rows_on_side}
use Rattle.ifmap_graph.specs.Sides.{list_now}
use Rattle.ifmap_graph.proofs.Made.{all_canon, unmade_by}
use Rattle.ifmap_graph.proofs.reserving.make_ready.Goals as goal

pub place_items-requires-clause-canon : goal.place_items-requires-clause-canon
place_items-requires-clause-canon c = all_canon (rows_on_side list_now c.args.shelves.now) c.args.changes.now c.requires.fits.each

pub take_shelves-requires : goal.take_shelves-requires
take_shelves-requires c = record {
  inside = (c.place_items.new.links.items, c.place_items.ensures.grown.inside);
  bare = c.place_items.ensures.grown.bare c.requires.bare;
  apart = c.requires.fits.apart;
  long = subst (λ (l : List Bool). length l ≤ length c.args.changes.now) (sym c.deref-in-Err.ensures.value) c.place_items.ensures.long;
  brought = (
    c.args.shelves.now,
    sym c.place_items.ensures.grown.now,
    subst (λ (l : List Bool). BringsShelves (flagged_items (items_changed c.args.changes.now) l) c.args.shelves.now
        c.place_items.new.shelves)
        (sym c.deref-in-Err.ensures.value)
        c.place_items.ensures.brought,
  );
}

pub returns-in-Ok-clause-made : goal.returns-in-Ok-clause-made
returns-in-Ok-clause-made c =
    on_ok_weaker c.draft_or_take.result
    (λ made. made (graph_fields c.args.names.now c.args.shelves.now c.args.links.now.items) c.place_items.ensures.grown
    (subst (λ (l : List Bool). BringsShelves (flagged_items (items_changed c.args.changes.now) l) c.args.shelves.now
    c.place_items.new.shelves)
    (sym c.deref.ensures.value)
    c.place_items.ensures.brought))
    c.draft_or_take.ensures.made

pub returns-in-Ok-clause-unmade : goal.returns-in-Ok-clause-unmade
returns-in-Ok-clause-unmade c =
    on_err_weaker c.draft_or_take.result
    (λ unmade. unmade (graph_fields c.args.names.now c.args.shelves.now c.args.links.now.items) c.requires.inside
    c.place_items.ensures.grown
    (subst (λ (l : List Bool). BringsShelves (flagged_items (items_changed c.args.changes.now) l) c.args.shelves.now
    c.place_items.new.shelves)
    (sym c.deref.ensures.value)
    c.place_items.ensures.brought))
    c.draft_or_take.ensures.unmade

pub returns-clause-unmade : goal.returns-clause-unmade
returns-clause-unmade c =
    unmade_by (graph_fields c.args.names.now c.args.shelves.now c.args.links.now.items) c.place_items.new.names c.take_shelves.new.names
    c.take_shelves.new.shelves
    c.place_items.new.links.items c.requires.inside c.place_items.ensures.grown.inside.pool
    (c.take_shelves.ensures.less.inside c.place_items.new.links.items c.place_items.ensures.grown.inside)
    (c.take_shelves.ensures.less.bare (c.place_items.ensures.grown.bare c.requires.bare))
    (λ v. ap (λ s. s.draft) (c.place_items.ensures.grown.links v) ∙ c.requires.none v)
    (c.take_shelves.ensures.less.rows ∙ c.place_items.ensures.grown.now) (λ v. ap (λ s. s.now) (c.place_items.ensures.grown.links v))
    c.place_items.ensures.grown.longer (λ a own h. c.take_shelves.ensures.less.own a own (c.place_items.ensures.grown.own a own h))
    (c.take_shelves.ensures.taken c.args.shelves.now
    (subst (λ (l : List Bool). BringsShelves (flagged_items (items_changed c.args.changes.now) l) c.args.shelves.now
    c.place_items.new.shelves)
    (sym c.deref-in-Err.ensures.value)
    c.place_items.ensures.brought))
    c.place_items.ensures.grown.kept c.take_shelves.ensures.less.named
