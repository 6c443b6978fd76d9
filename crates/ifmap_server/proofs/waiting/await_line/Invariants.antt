use Rattle.std.proofs.Common.{◌≤◌, ◌-◌, length}
use Rattle.ifmap_server.specs.Frames.{longest_header}
use Rattle.ifmap_input.specs.Inputs.{TakesFromSource}
use Rattle.ifmap_server.proofs.waiting.await_line.Given as goal

abbrev pub invariant-line : goal.invariant-line
invariant-line g l =
    TakesFromSource (g.S.Source.left l.initial.source) (g.S.Source.left l.source) l.initial.input l.input
    × (g.S.Source.faults l.initial.source ≤ g.S.Source.faults l.source)

abbrev pub decreases-line : goal.decreases-line
decreases-line g l = longest_header - length l.input
