use Rattle.std.proofs.Common.{◌<◌, [], length, get_or, sym, ◌∙◌, arith}
use Rattle.ifmap_graph.proofs.Accepting.{here_changed, stored_at, as_many}
use Rattle.ifmap_graph.proofs.Restoring.{all_restored, restores_on, begins_restoring, shelf_there}
use Rattle.ifmap_graph.proofs.undoing.exchange_changes.Goals as goal
use Rattle.ifmap_graph.specs.Out.{items_changed}
use Rattle.ifmap_lemmas.specs.Stepping.{some_in}

pub loop-i-init : goal.loop-i-init
loop-i-init c =
    begins_restoring (items_changed c.args.changes.now) c.args.lists.now.items c.args.shelves.now c.requires.shelved c.requires.bare
    c.requires.there
    (c.requires.long ∙ sym (as_many c.args.changes.now))

pub exchange_at-requires-clause-room : goal.exchange_at-requires-clause-room
exchange_at-requires-clause-room c = omega (arith, c.loop-i-test.true, c.loop-i.invariant.long, as_many c.args.changes.now)

pub exchange_at-requires-clause-there : goal.exchange_at-requires-clause-there
exchange_at-requires-clause-there c = λ d.
    shelf_there (items_changed c.args.changes.now) c.args.lists.now.items c.args.shelves.now c.loop-i.lists.items c.loop-i.shelves
    c.loop-i.i
    (get_or c.args.changes.now c.loop-i.i d).item (omega (arith, c.loop-i-test.true, as_many c.args.changes.now))
    (here_changed c.args.changes.now c.loop-i.i d (omega (arith, c.loop-i-test.true))) c.loop-i.invariant

pub loop-i-preserved : goal.loop-i-preserved
loop-i-preserved c =
    let within : c.loop-i.i < length c.args.changes.now = omega (arith, c.loop-i-test.true)
    in let d = some_in c.args.changes.now c.loop-i.i within
    in restores_on (items_changed c.args.changes.now) c.args.lists.now.items c.args.shelves.now c.loop-i.lists.items c.loop-i.shelves
    c.loop-i.i
    (get_or c.args.changes.now c.loop-i.i d).item (omega (arith, within, as_many c.args.changes.now))
    (here_changed c.args.changes.now c.loop-i.i d within) c.loop-i.invariant
    c.exchange_at.new.lists.items c.exchange_at.new.shelves [] (stored_at c.loop-i.shelves (get_or c.args.changes.now c.loop-i.i d).item)
    c.exchange_at.ensures.left.stays.shelved c.exchange_at.ensures.left.bare (c.exchange_at.ensures.now d [])
    (c.exchange_at.ensures.lists d) c.exchange_at.ensures.left.stays.place.ends
    c.exchange_at.ensures.left.stays.place.waits c.exchange_at.ensures.left.stays.place.places

pub returns-clause-now : goal.returns-clause-now
returns-clause-now c =
    all_restored (items_changed c.args.changes.now) c.args.lists.now.items c.args.shelves.now c.loop-i.lists.items c.loop-i.shelves
    c.loop-i.i
    (omega (arith, c.loop-i-test.false, as_many c.args.changes.now)) c.loop-i.invariant

pub returns-clause-left : goal.returns-clause-left
returns-clause-left c =
    let is = c.loop-i.invariant
    in record {
      stays = record {
        shelved = is.shelved;
        place = record { ends = is.ends; waits = is.waits; places = is.places };
      };
      bare = is.bare;
    }
