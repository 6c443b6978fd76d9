use Rattle.std.proofs.Common.{◌≡◌, drop}
use Rattle.ifmap_plans.specs.Lists.{list_without}
use Rattle.ifmap_rows.proofs.rows.Rows.take_each.Given as goal

-- with the rest it is all
abbrev pub invariant-loop-row : goal.invariant-loop-row
invariant-loop-row l = list_without (drop l.row-index l.removed) l.self ≡ list_without l.removed l.initial.self
