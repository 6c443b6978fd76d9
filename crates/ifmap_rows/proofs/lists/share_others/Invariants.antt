use Rattle.std.proofs.Common.{◌≡◌, take}
use Rattle.ifmap_plans.specs.Lists.{list_without}
use Rattle.ifmap_rows.proofs.lists.share_others.Given as goal

abbrev pub invariant-loop-row : goal.invariant-loop-row
invariant-loop-row l = l.others.items ≡ list_without l.removed (take l.row-index l.rows)
