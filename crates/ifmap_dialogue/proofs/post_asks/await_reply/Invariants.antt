use Rattle.std.proofs.Common.{◌-◌}
use Rattle.ifmap_dialogue.specs.Turns.{most_turns, question_of}
use Rattle.ifmap_dialogue.proofs.Turning.{Waits}
use Rattle.ifmap_dialogue.proofs.post_asks.await_reply.Given as goal

abbrev pub invariant-turns : goal.invariant-turns
invariant-turns g l =
    Waits (g.C.Clock.gives l.setting.clock.now) (g.K.Desk.seen l.initial.desk) (g.K.Desk.seen l.desk)
    (question_of l.poll) l.turns l.event

abbrev pub decreases-turns : goal.decreases-turns
decreases-turns g l = most_turns - l.turns
