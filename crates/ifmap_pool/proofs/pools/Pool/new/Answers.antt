use Rattle.std.proofs.Common.{ℕ, ap, ◌∙◌, arith, lit≤}
use Rattle.std.specs.Prelude.{option_map, unwrap_or}
use Rattle.std.specs.Ordering.{nat_cmp}
use Rattle.std.specs.FinMap.{get, get-empty}
use Rattle.ifmap_pool.proofs.Emptiness.{kept_none}
use Rattle.ifmap_pool.proofs.Live.{live_keys-nil}
use Rattle.ifmap_pool.proofs.pools.Pool.new.Goals as goal

pub returns-clause-live : goal.returns-clause-live
returns-clause-live g c = live_keys-nil c.new.result.items c.new.ensures.items

pub returns-clause-none : goal.returns-clause-none
returns-clause-none g c number =
    ap (λ entry. unwrap_or (option_map (λ (e : g.row.K.Denot × ℕ). e.1) entry) 0)
    (ap (λ m. get m number) (live_keys-nil c.new.result.items c.new.ensures.items) ∙ get-empty nat_cmp number)

pub invariant_of-result : goal.invariant_of-result
invariant_of-result g c = (
  rw (c.new.ensures.items, c.new-2.ensures.items, c.new-3.ensures.items, c.new-3.ensures.len) (kept_none g.K.Ord.cmp),
  omega arith,
  omega arith,
  omega arith,
  lit≤ tt,
)
