use Rattle.std.proofs.Common.{◌<◌, ℕ, subst, sym, arith}
use Rattle.ifmap_graph.proofs.Touching.{touched_all, touches_on, begins_touching}
use Rattle.ifmap_graph.proofs.linking.touch_slots.Goals as goal

pub loop-at-init : goal.loop-at-init
loop-at-init c = begins_touching c.args.slots.now c.args.links.now.items c.args.touched.now c.args.ways.now.items c.requires.ready
    c.requires.bare

pub touch_slot-requires-clause-pairs : goal.touch_slot-requires-clause-pairs
touch_slot-requires-clause-pairs c = λ at v w j.
    let t = c.requires.pairs at v w j
    in (
      subst (λ (n : ℕ). v < n) (sym c.loop-at.invariant.kept.long) t.0,
      subst (λ (n : ℕ). w < n) (sym c.loop-at.invariant.kept.long) t.1,
      t.2,
    )

pub loop-at-preserved : goal.loop-at-preserved
loop-at-preserved c =
    touches_on c.args.slots.now c.args.links.now.items c.loop-at.links.items c.touch_slot.new.links.items c.args.touched.now
    c.loop-at.ways.items
    c.touch_slot.new.ways.items c.loop-at.at-index c.loop-at-test.true c.loop-at.invariant c.touch_slot.ensures.ready
    c.touch_slot.ensures.kept
    c.in_ok-touch_slot.ensures.ok

pub returns-clause-ok : goal.returns-clause-ok
returns-clause-ok c =
    touched_all c.args.slots.now c.args.links.now.items c.loop-at.links.items c.args.touched.now c.loop-at.ways.items c.loop-at.at-index
    (omega (arith, c.loop-at-test.false)) c.loop-at.invariant
