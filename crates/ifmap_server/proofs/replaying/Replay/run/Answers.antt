-- Turn by turn to the end of the replay.
use Rattle.ifmap_server.specs.Ends.{source_and_sink}
use Rattle.ifmap_server.proofs.Endings.{error_ends, fault_ends}
use Rattle.ifmap_server.proofs.Progress.{begin, reaches_next, answers_all}
use Rattle.ifmap_server.proofs.replaying.Replay.run.Goals as goal

pub frames-init : goal.frames-init
frames-init g c = begin c.bodies_have_one_meaning.ensures _ _ c.requires

pub frames-preserved : goal.frames-preserved
frames-preserved g c =
    let turned = rw c.in-Ok-Answered.field-0-is at c.in-Ok-Answered.ensures.turn in
    reaches_next _ _ _ _ c.frames.invariant _ turned c.in-Ok-Answered.ensures.later

pub returns-in-Ok-Ended : goal.returns-in-Ok-Ended
returns-in-Ok-Ended g c =
    let turned = rw c.in-Ok-Ended.field-0-is at c.in-Ok-Ended.ensures.turn in
    answers_all _ _ _ _ c.frames.invariant turned

pub returns-in-FrameFault : goal.returns-in-FrameFault
returns-in-FrameFault g c =
    let turned = rw c.in-FrameFault.is at c.in-Err.ensures.turn in
    let told = c.tell_fault.ensures in
    fault_ends
    (source_and_sink (g.S.Source.left c.args.source.now) (g.S.Source.faults c.args.source.now) (g.K.Sink.held c.args.sink.now)
    (g.K.Sink.faults c.args.sink.now))
    (source_and_sink (g.S.Source.left c.frames.source) (g.S.Source.faults c.frames.source) (g.K.Sink.held c.frames.sink)
    (g.K.Sink.faults c.frames.sink))
    (source_and_sink (g.S.Source.left c.turn.new.source) (g.S.Source.faults c.turn.new.source) (g.K.Sink.held c.turn.new.sink)
    (g.K.Sink.faults c.turn.new.sink))
    c.frames.self c.turn.new.self c.frames.invariant
    (source_and_sink (g.S.Source.left c.turn.new.source) (g.S.Source.faults c.turn.new.source) (g.K.Sink.held c.tell_fault.new.sink)
    (g.K.Sink.faults c.tell_fault.new.sink))
    c.tell_fault.result turned c.in-Err.ensures.later told.told told.write told.memory told.only told.rose

pub returns-in_default : goal.returns-in_default
returns-in_default g c =
    error_ends
    (source_and_sink (g.S.Source.left c.args.source.now) (g.S.Source.faults c.args.source.now) (g.K.Sink.held c.args.sink.now)
    (g.K.Sink.faults c.args.sink.now))
    (source_and_sink (g.S.Source.left c.frames.source) (g.S.Source.faults c.frames.source) (g.K.Sink.held c.frames.sink)
    (g.K.Sink.faults c.frames.sink))
    (source_and_sink (g.S.Source.left c.turn.new.source) (g.S.Source.faults c.turn.new.source) (g.K.Sink.held c.turn.new.sink)
    (g.K.Sink.faults c.turn.new.sink))
    c.frames.self c.turn.new.self c.frames.invariant _ c.in_default.not-FrameFault c.in-Err.ensures.turn
