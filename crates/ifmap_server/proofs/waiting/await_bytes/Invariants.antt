use Rattle.std.proofs.Common.{◌≤◌, ◌-◌, length}
use Rattle.ifmap_input.specs.Inputs.{TakesFromSource}
use Rattle.ifmap_server.proofs.waiting.await_bytes.Given as goal

abbrev pub invariant-bytes : goal.invariant-bytes
invariant-bytes g l =
    TakesFromSource (g.S.Source.left l.initial.source) (g.S.Source.left l.source) l.initial.input l.input
    × (g.S.Source.faults l.initial.source ≤ g.S.Source.faults l.source)

abbrev pub decreases-bytes : goal.decreases-bytes
decreases-bytes g l = l.count - length l.input
