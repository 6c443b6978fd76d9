use Rattle.ifmap_drill.proofs.Counting.{event_taken}
use Rattle.ifmap_drill.proofs.drills.Drill.take_event.Goals as goal

pub returns : goal.returns
returns g c =
    event_taken c.args.i c.args.self.now c.in_ok-event.event c.make_event.new.draws c.answer_event.result c.answer_event.new.self
    c.in_ok-event.ensures.event c.in_ok-event.ensures.rest c.answer_event.ensures
