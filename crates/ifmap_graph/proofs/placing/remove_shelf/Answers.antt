use Rattle.std.proofs.Common.{Option, IsSome, refl, sym, subst}
use Rattle.ifmap_graph.specs.declared.shelves.Shelf.{Shelf}
use Rattle.ifmap_graph.specs.Sides.{list_next, list_now}
use Rattle.ifmap_graph.proofs.Removing.{Removes, empty_shelf, empty_there, removed_before, removed_brings, removed_ends, removed_inside, removed_others, removed_own, removed_rows}
use Rattle.ifmap_graph.proofs.placing.remove_shelf.Goals as goal
use Rattle.ifmap_graph.proofs.placing.remove_shelf.Goals.{After-remove-shelf}

removes : (c : After-remove-shelf) → Removes c.args.shelves.now (record { places = c.remove.new.self; slots = c.remove-shelf.new.self })
    c.args.item.now c.in-Some.at c.remove-shelf.result
removes c = record {
  here = sym c.in-Some.ensures.value;
  there = c.remove-shelf.ensures.value;
  empty = empty_shelf c.args.shelves.now c.args.item.now c.in-Some.at c.remove-shelf.result c.requires.empty
      (sym c.in-Some.ensures.value) c.remove-shelf.ensures.value;
  gone = c.remove-shelf.ensures.updates.changed;
  others = c.remove-shelf.ensures.updates.others;
  entries = c.remove.ensures.entries;
  rises = c.remove.ensures.ordered;
  updates = c.remove.ensures.updates.0;
}

pub remove-shelf-requires : goal.remove-shelf-requires
remove-shelf-requires c =
    let had = empty_there c.args.shelves.now c.args.item.now c.in-Some.at c.requires.empty (sym c.in-Some.ensures.value)
    in subst (λ (o : Option Shelf). IsSome o) (sym had.1) refl

pub release_ends-requires : goal.release_ends-requires
release_ends-requires c =
    removed_ends (removes (goal.at.release_ends-requires c).After-remove-shelf) c.args.names.now c.requires.inside.0 c.requires.inside.1

pub returns-clause-inside : goal.returns-clause-inside
returns-clause-inside c = λ links is.
    let place = goal.at.returns-clause-inside c
    in removed_inside (removes place.After-remove-shelf) c.args.names.now links is c.release_ends.ensures

pub returns-clause-own : goal.returns-clause-own
returns-clause-own c =
    let place = goal.at.returns-clause-own c
    in removed_own (removes place.After-remove-shelf) c.args.names.now c.requires.inside.0 c.requires.inside.1
    c.release_ends.ensures

pub returns-clause-now : goal.returns-clause-now
returns-clause-now c = removed_rows (removes (goal.at.returns-clause-now c).After-remove-shelf) c.requires.inside.1.placed list_now refl

pub returns-clause-next : goal.returns-clause-next
returns-clause-next c = removed_rows (removes (goal.at.returns-clause-next c).After-remove-shelf) c.requires.inside.1.placed list_next refl

pub returns-clause-before : goal.returns-clause-before
returns-clause-before c = removed_before (removes (goal.at.returns-clause-before c).After-remove-shelf) c.requires.inside.1.placed

pub returns-clause-others : goal.returns-clause-others
returns-clause-others c = removed_others (removes (goal.at.returns-clause-others c).After-remove-shelf) c.requires.inside.1.placed

pub returns-clause-taken : goal.returns-clause-taken
returns-clause-taken c = removed_brings (removes (goal.at.returns-clause-taken c).After-remove-shelf) c.requires.inside.1.placed
