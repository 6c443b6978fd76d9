use Rattle.std.proofs.Common.{sym, ◌∙◌}
use Rattle.ifmap_core.proofs.Releasing.{next_first, numbered_next, released_all, released_next, stayed_next}
use Rattle.ifmap_core.proofs.completions.release_gone.Goals as goal
use Rattle.ifmap_core.proofs.completions.release_gone.Goals.{then-gone-at, else-gone-at}

pub release_start-requires : goal.release_start-requires
release_start-requires c =
    let steady = c.requires.steady in (
      _,
      next_first c.args.gone.now c.args.standing.now c.loop-at.at c.requires.flags c.loop-at-test.true c.index-standing-at.result
          c.args.graph.now c.loop-at.graph (sym c.index-standing-at.is) c.loop-at.invariant.steady steady.0 steady.1,
    )

pub loop-at-preserved : goal.loop-at-preserved
loop-at-preserved c = elim c.if-gone-at.branch [
  | then-gone-at w ↦ rw w.graph-is (record {
    steady = released_next c.args.gone.now c.args.standing.now c.loop-at.at c.requires.flags c.loop-at-test.true w.index-standing-at.result
        c.args.graph.now c.loop-at.graph w.release_start.new.graph (sym w.index-standing-at.is) w.if-gone-at.true c.loop-at.invariant.steady
        w.release_start.ensures.steady;
    rows = w.release_start.ensures.lets_go.rows ∙ c.loop-at.invariant.rows;
    lean = λ rest l. w.release_start.ensures.lets_go.lean rest (c.loop-at.invariant.lean rest l);
    kept = numbered_next c.args.graph.now c.loop-at.graph w.release_start.new.graph c.loop-at.invariant.kept
        w.release_start.ensures.lets_go.kept
        w.release_start.ensures.lets_go.numbers;
  })
  | else-gone-at w ↦ rw w.graph-is (record {
    steady = stayed_next c.args.gone.now c.args.standing.now c.loop-at.at c.args.graph.now c.loop-at.graph c.requires.flags
        c.loop-at-test.true w.if-gone-at.false c.loop-at.invariant.steady;
    rows = c.loop-at.invariant.rows;
    lean = c.loop-at.invariant.lean;
    kept = c.loop-at.invariant.kept;
  })
]

pub returns-clause-steady : goal.returns-clause-steady
returns-clause-steady c =
    released_all c.args.gone.now c.args.standing.now c.loop-at.at c.args.graph.now c.loop-at.graph c.requires.flags c.loop-at-test.false
    c.loop-at.invariant.steady
