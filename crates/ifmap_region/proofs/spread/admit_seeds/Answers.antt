use Rattle.std.proofs.Common.{ℕ, ◌≤◌}
use Rattle.ifmap_lemmas.specs.Distinct.{all_left, left_of_rest}
use Rattle.ifmap_region.specs.Marks.{mark_of}
use Rattle.ifmap_region.proofs.Falling.{seed_admitted, seed_walk, charged_more, charged_part}
use Rattle.ifmap_region.proofs.spread.admit_seeds.Goals as goal

pub loop-number-preserved : goal.loop-number-preserved
loop-number-preserved g c = record {
  rows = λ v e. c.loop-number.invariant.rows v (c.enqueue.ensures.rows v e);
  low = λ all. all_left (λ (s : ℕ × ℕ). c.args.level ≤ s.0) _ _ (left_of_rest _ _ _ c.in-Some.ensures.some)
      (c.loop-number.invariant.low all);
  falls = λ start r.
      seed_admitted _ _ start _ (g.G.LinkSource.seen c.args.basis.now.graph.now).count (mark_of c.args.basis.now.base.now.entries) _ _
      c.args.level c.in-Some.number _ _ _ _ c.in-Some.ensures.some
      c.in_ok-enqueue.ensures.ok (c.loop-number.invariant.falls start r);
  charged = λ start before owed first r ch.
      charged_more _ _ start _ (g.G.LinkSource.seen c.args.basis.now.graph.now).count (mark_of c.args.basis.now.base.now.entries) _ _
      c.args.level c.in-Some.number _ _ first before owed
      (seed_walk _ _ start _ _ c.args.level c.in-Some.number _ _ _ c.in-Some.ensures.some (c.loop-number.invariant.falls start r))
      c.in_ok-enqueue.ensures.ok (c.loop-number.invariant.charged start before owed first r ch);
}

pub returns-in_err-enqueue-clause-charged : goal.returns-in_err-enqueue-clause-charged
returns-in_err-enqueue-clause-charged g c start before owed first r ch =
    rw c.in_err-enqueue.ensures.queue
    (charged_part _ _ start _ (g.G.LinkSource.seen c.args.basis.now.graph.now).count (mark_of c.args.basis.now.base.now.entries) _ _
    c.args.level c.in-Some.number c.loop-number.queue.items first before owed
    (seed_walk _ _ start _ _ c.args.level c.in-Some.number _ _ _ c.in-Some.ensures.some (c.loop-number.invariant.falls start r))
    c.enqueue.ensures.part (c.loop-number.invariant.charged start before owed first r ch))

pub returns-clause-above : goal.returns-clause-above
returns-clause-above g c all = rw c.in_default.ensures.none (c.in_default.ensures.above (c.loop-number.invariant.low all))

pub returns-clause-falls : goal.returns-clause-falls
returns-clause-falls g c start r = rw c.in_default.ensures.none (c.loop-number.invariant.falls start r)
