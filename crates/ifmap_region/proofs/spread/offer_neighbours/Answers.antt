use Rattle.std.proofs.Common.{◌≡◌, ℕ, Some, ◌≤◌, sym, arith}
use Rattle.ifmap_region.specs.Links.{links_of}
use Rattle.ifmap_region.specs.Marks.{mark_of, mark_over}
use Rattle.ifmap_region.proofs.Falling.{neighbour_offered, neighbour_walk, charged_more, charged_part, low_more, low_unmatched}
use Rattle.ifmap_region.proofs.spread.offer_neighbours.Goals as goal
use Rattle.ifmap_region.proofs.spread.offer_neighbours.Goals.{in-Some+in_ok-enqueue, in_default}

pub loop-i-preserved : goal.loop-i-preserved
loop-i-preserved g c = elim c.match-at.branch [
  | in-Some+in_ok-enqueue w ↦
      let link : links_of (g.G.LinkSource.seen c.args.basis.now.graph.now) c.args.number
      w.in-Some.neighbour =
      (c.loop-i.i, omega (arith, c.loop-i-test.true, c.count-i-end.ensures), sym w.in-Some.ensures.link) in
      rw (w.rows-is, w.queue-is) record {
        rows = λ v e. c.loop-i.invariant.rows v (w.enqueue.ensures.rows v e);
        offered = low_more _ _ (mark_of c.args.basis.now.base.now.entries) _ _ _ _ w.in_ok-enqueue.ensures.ok
            ((g.G.LinkSource.seen c.args.basis.now.graph.now).link c.args.number)
            c.loop-i.i (sym w.in-Some.ensures.link) c.loop-i.invariant.offered;
        falls = λ start level rest seeds is below passable r.
            neighbour_offered _ _ _ start c.args.basis.now.top level c.args.number rest seeds below passable
            (mark_of c.args.basis.now.base.now.entries) _ _ _ _ w.in-Some.neighbour link
            (rw is at w.in_ok-enqueue.ensures.ok) (c.loop-i.invariant.falls start level rest seeds is below passable r);
        charged = λ start level before owed rest seeds first is below passable r ch.
            charged_more _ _ start _ _ (mark_of c.args.basis.now.base.now.entries) _ _ c.args.next w.in-Some.neighbour
            c.loop-i.queue.items w.enqueue.new.queue.items first before owed
            (rw is (neighbour_walk _ _ _ start c.args.basis.now.top level c.args.number rest seeds below passable _ _ w.in-Some.neighbour
            link
            (c.loop-i.invariant.falls start level rest seeds is below passable r)))
            w.in_ok-enqueue.ensures.ok (c.loop-i.invariant.charged start level before owed rest seeds first is below passable r ch);
        steps = omega (arith, c.at.ensures.step, c.loop-i.invariant.steps);
      }
  | in_default w ↦ rw (w.rows-is, w.queue-is) record {
    rows = c.loop-i.invariant.rows;
    offered = low_unmatched ((g.G.LinkSource.seen c.args.basis.now.graph.now).link c.args.number) c.loop-i.i
        (λ (x : ℕ). (k : ℕ) × (k ≤ c.args.next) × (mark_over c.loop-i.rows.entries (mark_of c.args.basis.now.base.now.entries) x ≡ Some k))
        (sym w.in_default.ensures.link) c.loop-i.invariant.offered;
    falls = c.loop-i.invariant.falls;
    charged = c.loop-i.invariant.charged;
    steps = omega (arith, c.at.ensures.step, c.loop-i.invariant.steps);
  }
]

pub returns-in_err-enqueue-clause-charged : goal.returns-in_err-enqueue-clause-charged
returns-in_err-enqueue-clause-charged g c start level before owed rest seeds first is below passable r ch =
    let link : links_of (g.G.LinkSource.seen c.args.basis.now.graph.now) c.args.number
    c.in-Some.neighbour =
    (c.loop-i.i, omega (arith, c.loop-i-test.true, c.count-i-end.ensures), sym c.in-Some.ensures.link) in
    rw c.in_err-enqueue.ensures.queue
    (charged_part _ _ start _ _ (mark_of c.args.basis.now.base.now.entries) _ _ c.args.next c.in-Some.neighbour c.loop-i.queue.items first
    before owed
    (rw is (neighbour_walk _ _ _ start c.args.basis.now.top level c.args.number rest seeds below passable _ _ c.in-Some.neighbour link
    (c.loop-i.invariant.falls start level rest seeds is below passable r)))
    c.enqueue.ensures.part (c.loop-i.invariant.charged start level before owed rest seeds first is below passable r ch))

pub returns-clause-offered : goal.returns-clause-offered
returns-clause-offered g c w l = c.loop-i.invariant.offered l.0 w (omega (arith, c.loop-i-test.false, c.count-i-end.ensures, l.1)) l.2
