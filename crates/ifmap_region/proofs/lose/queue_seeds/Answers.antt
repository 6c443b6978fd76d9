use Rattle.std.proofs.Common.{ℕ, ◌≤◌}
use Rattle.ifmap_lemmas.specs.Distinct.{all_left, left_of_rest}
use Rattle.ifmap_region.proofs.Cuts.{cutting_seed}
use Rattle.ifmap_region.proofs.lose.queue_seeds.Goals as goal

pub loop-number-preserved : goal.loop-number-preserved
loop-number-preserved c = record {
  low = λ all. all_left (λ (s : ℕ × ℕ). c.args.level ≤ s.0) _ _ (left_of_rest _ _ _ c.in-Some.ensures.some)
      (c.loop-number.invariant.low all);
  keeps = λ layer flips start before spent gone b s.
      cutting_seed layer.graph.count layer.graph.link layer.graph.terminal flips start layer.top layer.first b gone c.args.level before
      c.loop-number.rows.entries
      c.enqueue.new.rows.entries _ _ c.loop-number.queue.items c.enqueue.new.queue.items c.in-Some.number spent c.in-Some.ensures.some
      c.in_ok-enqueue.ensures (c.loop-number.invariant.keeps layer flips start before spent gone b s);
}

pub returns-clause-above : goal.returns-clause-above
returns-clause-above c all = rw c.in_default.ensures.none (c.in_default.ensures.above (c.loop-number.invariant.low all))

pub returns-clause-keeps : goal.returns-clause-keeps
returns-clause-keeps c layer flips start before spent gone b s =
    rw c.in_default.ensures.none (c.loop-number.invariant.keeps layer flips start before spent gone b s)
