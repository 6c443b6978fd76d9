use Rattle.std.proofs.Common.{◌≡◌, IsSome, ◌++◌, ap, ◌∙◌, sym, subst}
use Rattle.std.specs.List.{AllByRecursion}
use Rattle.ifmap_view.specs.Rows.{stored_on}
use Rattle.ifmap_graph.specs.Back.{stand_each}
use Rattle.ifmap_graph.specs.Inside.{links_at}
use Rattle.ifmap_graph.specs.Out.{items_changed}
use Rattle.ifmap_graph.specs.Seen.{AreAwaited, IsLean}
use Rattle.ifmap_graph.specs.Shelved.{slot_of_item, rows_on_side}
use Rattle.ifmap_graph.specs.Sides.{list_now}
use Rattle.ifmap_graph.specs.Turning.{restore_each}
use Rattle.ifmap_graph.proofs.Settled.{bare_from, inside_of}
use Rattle.ifmap_graph.proofs.Undone.{GoesBack, all_there, undone_inside, undone_lean, undone_links, undone_own, undone_rows, undone_still, undone_waits}
use Rattle.ifmap_graph.proofs.graph.Graph.undo.Goals as goal
use Rattle.ifmap_graph.proofs.graph.Graph.undo.Goals.{After-restore_all, After-as_slice-2}

-- what the two calls did
goes : (c : After-restore_all) → GoesBack c.self.inside.names c.self.inside.shelves c.exchange_changes.new.shelves
    c.self.inside.links.items c.restore_all.new.lists.items c.args.undo
goes c =
    let still = rw (← c.self.view_is) at c.requires.still
    in record {
      stay = c.exchange_changes.ensures.left.stays.place;
      is = c.self.invariant;
      bare = c.exchange_changes.ensures.left.bare;
      none = still.links;
      stands = λ x. c.exchange_changes.ensures.now x
          ∙ ap (λ l. stand_each (items_changed l) c.lists.inside.0.items x (stored_on x (rows_on_side list_now c.self.inside.shelves)))
          c.as_slice.ensures
          ∙ ap (λ l. stand_each (items_changed c.args.undo.plan.changes) l x (stored_on x (rows_on_side list_now c.self.inside.shelves)))
          c.lists.view_is;
      turned = c.restore_all.ensures
          ∙ ap (λ w. restore_each w c.self.inside.links.items) c.ways.view_is;
    }

-- the changes as the last call reads them
same_changes : (c : After-as_slice-2) → c.args.undo.plan.changes ≡ c.as_slice-2.result.now
same_changes c = sym c.as_slice-2.ensures

pub exchange_changes-requires-clause-bare : goal.exchange_changes-requires-clause-bare
exchange_changes-requires-clause-bare c =
    bare_from c.self.inside.names c.self.inside.shelves c.self.inside.links.items c.self.invariant.placed
    (rw (← c.self.view_is) at c.requires.still)

pub exchange_changes-requires-clause-there : goal.exchange_changes-requires-clause-there
exchange_changes-requires-clause-there c =
    let b = rw (← c.self.view_is) at c.requires.back
    in subst (λ l. AllByRecursion (λ x. IsSome (slot_of_item c.self.inside.shelves x)) (items_changed l))
    (sym c.as_slice.ensures)
    (all_there c.self.inside.names c.self.inside.shelves c.self.inside.links.items (items_changed c.args.undo.plan.changes) b.2.waits)

pub invariant_of-self : goal.invariant_of-self
invariant_of-self c =
    let b = rw (← c.self.view_is) at c.requires.back
    in undone_inside (goes (goal.at.invariant_of-self c).After-restore_all) b.0 b.1 b.2

pub release_waits-requires-clause-still : goal.release_waits-requires-clause-still
release_waits-requires-clause-still c =
    let b = rw (← c.self.view_is) at c.requires.back
    in undone_still (goes (goal.at.release_waits-requires-clause-still c).After-restore_all) b.0 b.1 b.2

pub release_waits-requires-clause-waits : goal.release_waits-requires-clause-waits
release_waits-requires-clause-waits c =
    let place = goal.at.release_waits-requires-clause-waits c
    in let b = rw (← c.self.view_is) at c.requires.back
    in subst
    (λ l. AreAwaited (items_changed l) (inside_of c.self.inside.names c.exchange_changes.new.shelves c.restore_all.new.lists.items))
    (same_changes place.After-as_slice-2)
    (undone_waits (goes place.After-restore_all) (items_changed c.args.undo.plan.changes) b.2.waits)

pub returns-clause-back : goal.returns-clause-back
returns-clause-back c = λ rows links b.
    let back = rw (← c.self.view_is) at b
    in let went = goes (goal.at.returns-clause-back c).After-restore_all
    in (
      c.release_waits.ensures.now ∙ undone_rows went rows links back c.bytes_tell_identifiers_apart.ensures,
      λ v. ap (λ l. links_at list_now l v) c.release_waits.ensures.links ∙ undone_links went rows links back v,
    )

pub returns-clause-done : goal.returns-clause-done
returns-clause-done c =
    let place = goal.at.returns-clause-done c
    in let went = goes place.After-restore_all
    in let same = same_changes place.After-as_slice-2
    in let b = rw (← c.self.view_is) at c.requires.back
    in let last = c.release_waits.ensures.done
    in rw (← c.self.view_is)
    (record {
      still = last.still;
      numbers = last.numbers;
      own = λ a own h. last.own a own (undone_own went a own h);
      waits = λ rest a. last.waits rest
          (subst (λ l. AreAwaited (items_changed l ++ rest)
          (inside_of c.self.inside.names c.exchange_changes.new.shelves c.restore_all.new.lists.items)) same
          (undone_waits went (items_changed c.args.undo.plan.changes ++ rest) a));
      lean = λ rest lean. last.lean rest
          (subst (λ l. IsLean (items_changed l ++ rest)
          (inside_of c.self.inside.names c.exchange_changes.new.shelves c.restore_all.new.lists.items)) same
          (undone_lean went b.0 b.1 b.2 (items_changed c.args.undo.plan.changes ++ rest) lean));
    })
