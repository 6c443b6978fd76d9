use Rattle.ifmap_serving.specs.Connections.{worker}
use Rattle.ifmap_serving.specs.Works.{Works, door_seen}
use Rattle.ifmap_serving.proofs.working.work.Given as goal

abbrev pub invariant-loop : goal.invariant-loop
invariant-loop g l =
    Works (g.C.Clock.gives l.clock)
    (worker (g.K.Desk.seen l.initial.desk) l.initial.words)
    (worker (g.K.Desk.seen l.desk) l.words)
    (door_seen g.D.Door.links g.D.Door.faults l.initial.door)
    (door_seen g.D.Door.links g.D.Door.faults l.door)
