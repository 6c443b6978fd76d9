use Rattle.std.proofs.Common.{ℕ, ap, arith}
use Rattle.ifmap_region.proofs.Waits.{first_least, below_first}
use Rattle.ifmap_region.proofs.levels.Seeds.first_level.Goals as goal

pub returns-then-self-len-clause-least : goal.returns-then-self-len-clause-least
returns-then-self-len-clause-least c =
    rw (ap (λ (p : ℕ × ℕ). p.0) c.behind-self.view_is) (rw (← c.self.view_is)
    (first_least c.self.inside.items.items c.self.inside.taken c.self.invariant.0 (omega (
      arith,
      c.len.ensures,
      c.if-self-len.true,
    )) c.index.result.now c.index.ensures))

pub returns-then-self-len-clause-greatest : goal.returns-then-self-len-clause-greatest
returns-then-self-len-clause-greatest c =
    rw (ap (λ (p : ℕ × ℕ). p.0) c.behind-self.view_is) (rw (← c.self.view_is)
    (below_first c.self.inside.items.items c.self.inside.taken (omega (arith, c.len.ensures, c.if-self-len.true))
    c.index.result.now c.index.ensures))
