use Rattle.std.proofs.Common.{ℕ, ap, ◌∙◌, arith, length-drop}
use Rattle.ifmap_region.proofs.Waits.{all_above}
use Rattle.ifmap_region.proofs.levels.Seeds.pop_at.Goals as goal
use Rattle.ifmap_region.proofs.levels.Seeds.pop_at.Goals.{else-self-len-via-then-self-len+else-index-level, else-self-len-via-else-self-len}

pub returns-else-self-len-clause-above : goal.returns-else-self-len-clause-above
returns-else-self-len-clause-above c =
    rw (← c.self.view_is) (elim c.else-self-len.branch [
      | else-self-len-via-then-self-len+else-index-level w ↦
          all_above c.self.inside.items.items c.self.inside.taken c.self.invariant.0 (omega (arith, c.len.ensures, w.if-self-len.true))
          w.index.result.now w.index.ensures c.args.level
          (λ at. w.if-index-level.false (ap (λ (p : ℕ × ℕ). p.0) w.behind-self.view_is ∙ at))
      | else-self-len-via-else-self-len w ↦
          λ all k d h. absurd (omega (
            arith,
            h,
            length-drop c.self.inside.taken c.self.inside.items.items,
            c.len.ensures,
            w.if-self-len.false,
          ))
    ])
