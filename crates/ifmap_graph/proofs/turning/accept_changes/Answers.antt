use Rattle.std.proofs.Common.{◌<◌, ◌≤◌, length, get_or, sym, ◌∙◌, arith}
use Rattle.std.proofs.lemmas.Simd.{map-map}
use Rattle.ifmap_lemmas.specs.Stepping.{some_in}
use Rattle.ifmap_plans.specs.declared.plans.ItemChange.{ItemChange}
use Rattle.ifmap_graph.proofs.Accepting.{accepted_bare, accepted_lists, accepted_now, begins_accepting, accepts_on, drafted_at, here_changed, stored_at, as_many}
use Rattle.ifmap_graph.proofs.turning.accept_changes.Goals as goal
use Rattle.ifmap_graph.specs.Out.{items_changed}

pub loop-i-init : goal.loop-i-init
loop-i-init c =
    begins_accepting (items_changed c.args.changes.now) c.args.shelves.now c.args.lists.now.items c.requires.shelved c.requires.out.drafted
    c.requires.out.within
    c.requires.out.apart (c.requires.long ∙ sym (as_many c.args.changes.now))

pub accept_at-requires-clause-room : goal.accept_at-requires-clause-room
accept_at-requires-clause-room c = omega (arith, c.loop-i-test.true, c.loop-i.invariant.long, as_many c.args.changes.now)

pub accept_at-requires-clause-drafted : goal.accept_at-requires-clause-drafted
accept_at-requires-clause-drafted c = λ d.
    drafted_at (items_changed c.args.changes.now) c.args.shelves.now c.loop-i.lists.items c.loop-i.shelves c.loop-i.i
    (get_or c.args.changes.now c.loop-i.i d).item
    (omega (arith, c.loop-i-test.true, as_many c.args.changes.now))
    (here_changed c.args.changes.now c.loop-i.i d (omega (arith, c.loop-i-test.true))) c.loop-i.invariant

pub loop-i-preserved : goal.loop-i-preserved
loop-i-preserved c =
    let within : c.loop-i.i < length c.args.changes.now = omega (arith, c.loop-i-test.true)
    in let d = some_in c.args.changes.now c.loop-i.i within
    in accepts_on (items_changed c.args.changes.now) c.args.shelves.now c.loop-i.lists.items c.loop-i.shelves c.loop-i.i
    (get_or c.args.changes.now c.loop-i.i d).item
    (omega (arith, within, as_many c.args.changes.now)) (here_changed c.args.changes.now c.loop-i.i d
    within) c.loop-i.invariant
    c.accept_at.new.lists.items c.accept_at.new.shelves c.accept_at.ensures.stays.shelved c.accept_at.ensures.next
    (c.accept_at.ensures.drafts d)
    (c.accept_at.ensures.others d) c.accept_at.ensures.stays.place.ends c.accept_at.ensures.stays.place.waits
    c.accept_at.ensures.stays.place.places
    (c.accept_at.ensures.lists d)

pub returns : goal.returns
returns c =
    let done : length (items_changed c.args.changes.now) ≤ c.loop-i.i = omega (arith, c.loop-i-test.false, as_many c.args.changes.now)
    in record {
      next = c.loop-i.invariant.same;
      now = accepted_now (items_changed c.args.changes.now) c.args.shelves.now c.loop-i.lists.items c.loop-i.shelves c.loop-i.i done
          c.loop-i.invariant;
      lists = accepted_lists (items_changed c.args.changes.now) c.args.shelves.now c.loop-i.lists.items c.loop-i.shelves c.loop-i.i done
          c.loop-i.invariant
          ∙ map-map (stored_at c.args.shelves.now) (λ (x : ItemChange). x.item) c.args.changes.now;
      left = record {
        stays = record {
          shelved = c.loop-i.invariant.shelved;
          place = record { ends = c.loop-i.invariant.ends; waits = c.loop-i.invariant.waits; places = c.loop-i.invariant.places };
        };
        bare = accepted_bare (items_changed c.args.changes.now) c.args.shelves.now c.loop-i.lists.items c.loop-i.shelves c.loop-i.i done
            c.loop-i.invariant;
      };
    }
