use Rattle.std.proofs.Common.{◌-◌}
use Rattle.ifmap_input.specs.Scripts.{longest_script}
use Rattle.ifmap_server.specs.Ends.{source_and_sink}
use Rattle.ifmap_server.proofs.Progress.{Progress}
use Rattle.ifmap_server.proofs.replaying.Replay.run.Given as goal

abbrev pub invariant-frames : goal.invariant-frames
invariant-frames g l =
    Progress
    (source_and_sink (g.S.Source.left l.initial.source) (g.S.Source.faults l.initial.source) (g.K.Sink.held l.initial.sink)
    (g.K.Sink.faults l.initial.sink))
    (source_and_sink (g.S.Source.left l.source) (g.S.Source.faults l.source) (g.K.Sink.held l.sink) (g.K.Sink.faults l.sink)) l.self

abbrev pub decreases-frames : goal.decreases-frames
decreases-frames g l = longest_script - l.self.offset
