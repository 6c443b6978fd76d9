use Rattle.std.proofs.Common.{◌≡◌, length, ◌≤◌}
use Rattle.mapd.proofs.outside.stands_at.Given as goal

abbrev pub invariant-loop : goal.invariant-loop
invariant-loop l = record {
  len : length l.stands.items ≡ l.counter;
  within : l.counter ≤ l.workers;
}
