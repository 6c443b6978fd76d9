use Rattle.std.proofs.Common.{◌<◌, ◌≤◌, length, get_or, arith}
use Rattle.ifmap_graph.proofs.Accepting.{discarded_bare, discarded_next, begins_discarding, discards_on, here_changed, there_at, as_many}
use Rattle.ifmap_graph.proofs.turning.discard_changes.Goals as goal
use Rattle.ifmap_graph.specs.Out.{items_changed}
use Rattle.ifmap_lemmas.specs.Stepping.{some_in}

pub loop-i-init : goal.loop-i-init
loop-i-init c = begins_discarding (items_changed c.args.changes.now) c.args.shelves.now
    c.requires.shelved c.requires.there c.requires.within

pub discard_at-requires-clause-there : goal.discard_at-requires-clause-there
discard_at-requires-clause-there c = λ d.
    there_at (items_changed c.args.changes.now) c.args.shelves.now c.loop-i.shelves c.loop-i.i (get_or c.args.changes.now c.loop-i.i d).item
    (omega (arith, c.loop-i-test.true, as_many c.args.changes.now))
    (here_changed c.args.changes.now c.loop-i.i d (omega (arith, c.loop-i-test.true))) c.loop-i.invariant

pub loop-i-preserved : goal.loop-i-preserved
loop-i-preserved c =
    let within : c.loop-i.i < length c.args.changes.now = omega (arith, c.loop-i-test.true)
    in let d = some_in c.args.changes.now c.loop-i.i within
    in discards_on (items_changed c.args.changes.now) c.args.shelves.now c.loop-i.shelves c.loop-i.i
    (get_or c.args.changes.now c.loop-i.i d).item
    (omega (arith, within, as_many c.args.changes.now)) (here_changed c.args.changes.now c.loop-i.i d
    within) c.loop-i.invariant
    c.discard_at.new.shelves c.discard_at.ensures.stays.shelved c.discard_at.ensures.now (c.discard_at.ensures.drafts d)
    c.discard_at.ensures.stays.place.ends
    c.discard_at.ensures.stays.place.waits c.discard_at.ensures.stays.place.places

pub returns : goal.returns
returns c =
    let done : length (items_changed c.args.changes.now) ≤ c.loop-i.i = omega (arith, c.loop-i-test.false, as_many c.args.changes.now)
    in record {
      now = c.loop-i.invariant.same;
      next = discarded_next (items_changed c.args.changes.now) c.args.shelves.now c.loop-i.shelves c.loop-i.i done c.loop-i.invariant;
      left = record {
        stays = record {
          shelved = c.loop-i.invariant.shelved;
          place = record { ends = c.loop-i.invariant.ends; waits = c.loop-i.invariant.waits; places = c.loop-i.invariant.places };
        };
        bare = discarded_bare (items_changed c.args.changes.now) c.args.shelves.now c.loop-i.shelves c.loop-i.i done c.loop-i.invariant;
      };
    }
