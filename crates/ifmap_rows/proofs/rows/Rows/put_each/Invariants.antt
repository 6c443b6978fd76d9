use Rattle.std.proofs.Common.{◌≡◌, drop}
use Rattle.ifmap_plans.specs.Lists.{put_each}
use Rattle.ifmap_rows.proofs.rows.Rows.put_each.Given as goal

-- with the rest it is all
abbrev pub invariant-loop-row : goal.invariant-loop-row
invariant-loop-row l = put_each (drop l.row-index l.added) l.self ≡ put_each l.added l.initial.self
