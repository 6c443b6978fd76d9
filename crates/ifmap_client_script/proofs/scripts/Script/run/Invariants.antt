use Rattle.std.proofs.Common.{◌+◌, ◌-◌}
use Rattle.ifmap_client_script.specs.Ends.{source_and_ports}
use Rattle.ifmap_client_script.specs.Outlets.{AreSame}
use Rattle.ifmap_input.specs.Scripts.{longest_script}
use Rattle.ifmap_client_script.proofs.Endings.{Reached}
use Rattle.ifmap_client_script.proofs.scripts.Script.run.Given as goal

abbrev pub invariant-lines : goal.invariant-lines
invariant-lines g l =
    Reached l.caller
    (source_and_ports (g.S.Source.left l.initial.source) (g.S.Source.faults l.initial.source) (g.O.Outlets.seen l.initial.outlets))
    (source_and_ports (g.S.Source.left l.source) (g.S.Source.faults l.source) (g.O.Outlets.seen l.outlets)) l.self
    × AreSame (g.O.Outlets.loans l.initial.outlets) (g.O.Outlets.loans l.outlets)

abbrev pub decreases-lines : goal.decreases-lines
decreases-lines g l = longest_script + 1 - l.self.offset
