use Rattle.std.proofs.Common.{◌≡◌, take}
use Rattle.ifmap_plans.specs.Lists.{list_without}
use Rattle.ifmap_rows.proofs.index.share_others_in_index.Given as goal

abbrev pub invariant-loop-worded : goal.invariant-loop-worded
invariant-loop-worded l = l.others.items ≡ list_without l.removed (take l.worded-index l.index)
