use Rattle.std.proofs.Common.{arith}
use Rattle.ifmap_graph.specs.Out.{items_changed}
use Rattle.ifmap_graph.proofs.Accepting.{as_many, item_at}
use Rattle.ifmap_graph.proofs.Waits.{has_place, is_few, waited_all, begins_waiting, waits_on_more}
use Rattle.ifmap_graph.proofs.waiting.wait_for.Goals as goal

pub loop-change-init : goal.loop-change-init
loop-change-init c = begins_waiting (items_changed c.args.changes.now) c.args.shelves.now c.requires.shelved c.requires.there c.requires.few
    c.requires.apart

pub wait-requires : goal.wait-requires
wait-requires c =
    let here = item_at c.args.changes.now c.loop-change.change-index c.change-item.result c.loop-change-test.true c.change-item.is
    in record {
      shelved = c.loop-change.invariant.shelved;
      there = has_place (items_changed c.args.changes.now) c.args.shelves.now c.loop-change.shelves c.loop-change.change-index
          c.change-item.result.item here.0 here.1 c.loop-change.invariant;
      few = is_few (items_changed c.args.changes.now) c.args.shelves.now c.loop-change.shelves c.loop-change.change-index
          c.change-item.result.item here.0 here.1 c.loop-change.invariant;
    }

pub loop-change-preserved : goal.loop-change-preserved
loop-change-preserved c =
    let here = item_at c.args.changes.now c.loop-change.change-index c.change-item.result c.loop-change-test.true c.change-item.is
    in waits_on_more (items_changed c.args.changes.now) c.args.shelves.now c.loop-change.shelves c.loop-change.change-index
    c.change-item.result.item here.0 here.1 c.loop-change.invariant c.wait.new.self
    c.wait.ensures.keeps.shelved c.wait.ensures.keeps.now c.wait.ensures.keeps.next c.wait.ensures.waits
    c.wait.ensures.drafts c.wait.ensures.kept c.wait.ensures.keeps.ends c.wait.ensures.keeps.places

pub returns : goal.returns
returns c = record {
  shelved = c.loop-change.invariant.shelved;
  now = c.loop-change.invariant.same;
  next = c.loop-change.invariant.other;
  waits = waited_all (items_changed c.args.changes.now) c.args.shelves.now c.loop-change.shelves c.loop-change.change-index
      (omega (arith, c.loop-change-test.false, as_many c.args.changes.now)) c.loop-change.invariant;
  drafts = c.loop-change.invariant.drafts;
  kept = c.loop-change.invariant.kept;
  ends = c.loop-change.invariant.ends;
  places = c.loop-change.invariant.places;
}
