use Rattle.std.proofs.Common.{◌≤◌}
use Rattle.ifmap_client_script.specs.TakenBytes.{Fetches}
use Rattle.ifmap_client_script.proofs.Waiting.{room_for}
use Rattle.ifmap_client_script.proofs.lines.Lines.gather.Given as goal

abbrev pub invariant-line : goal.invariant-line
invariant-line g l =
    Fetches (g.S.Source.left l.initial.source) (g.S.Source.left l.source) l.initial.self l.self
    × (g.S.Source.faults l.initial.source ≤ g.S.Source.faults l.source)

abbrev pub decreases-line : goal.decreases-line
decreases-line g l = room_for l.self
