use Rattle.std.proofs.Common.{◌≡◌}
use Rattle.ifmap_drill.specs.Drills.{drilling_after}
use Rattle.ifmap_drill.specs.Following.{drill_of}
use Rattle.ifmap_drill.proofs.running.count_from.Given as goal

abbrev pub invariant-events : goal.invariant-events
invariant-events g l = l.drill ≡ drill_of (drilling_after l.key l.i)
