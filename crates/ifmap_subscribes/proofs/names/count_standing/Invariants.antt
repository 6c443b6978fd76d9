use Rattle.std.proofs.Common.{◌≡◌, ◌+◌, ◌≤◌, drop}
use Rattle.ifmap_subscribes.proofs.KeptNames.{kept_count}
use Rattle.ifmap_subscribes.proofs.names.count_standing.Given as goal

-- what was counted and what is left is all
abbrev pub invariant-loop-at : goal.invariant-loop-at
invariant-loop-at l = record {
  all : l.count + kept_count l.serial (drop l.at l.gone) (drop l.at l.standing) ≡ kept_count l.serial l.gone l.standing;
  few : l.count ≤ l.at;
}
