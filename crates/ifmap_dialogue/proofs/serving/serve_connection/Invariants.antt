use Rattle.std.proofs.Common.{◌-◌}
use Rattle.ifmap_http.specs.Wires.{wire_seen}
use Rattle.ifmap_dialogue.specs.Rounds.{most_posts}
use Rattle.ifmap_dialogue.specs.Scenes.{scene}
use Rattle.ifmap_dialogue.proofs.Connecting.{Connects}
use Rattle.ifmap_dialogue.proofs.serving.serve_connection.Given as goal

abbrev pub invariant-posts : goal.invariant-posts
invariant-posts g l =
    Connects (g.C.Clock.gives l.setting.clock.now)
    (scene (g.K.Desk.seen l.initial.desk)
    (wire_seen g.L.Source.left g.L.Sink.held g.L.Source.faults g.L.Sink.faults l.initial.wire) l.initial.words)
    (scene (g.K.Desk.seen l.desk)
    (wire_seen g.L.Source.left g.L.Sink.held g.L.Source.faults g.L.Sink.faults l.wire) l.words) l.number

abbrev pub decreases-posts : goal.decreases-posts
decreases-posts g l = most_posts - l.number
