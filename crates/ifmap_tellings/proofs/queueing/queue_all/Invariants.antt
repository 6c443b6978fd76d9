use Rattle.std.specs.Vec.Iter.{into_iter_items}
use Rattle.ifmap_tellings.proofs.QueuedLaws.{Queueing}
use Rattle.ifmap_tellings.proofs.queueing.queue_all.Given as goal

abbrev pub invariant-loop-one : goal.invariant-loop-one
invariant-loop-one l =
    Queueing l.sessions.live l.standing l.fn.news l.fn.tellings l.tellings l.at (into_iter_items l.one-iterator)
