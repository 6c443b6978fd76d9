use Rattle.std.proofs.Common.{rules, ◌+◌, ◌^◌, ◌<◌, arith}
use Rattle.ifmap_session.proofs.QueueLaws.{one_more_fits}
use Rattle.ifmap_session.proofs.queues.LiveSession.push.Goals as goal

pub overflow_add-self : goal.overflow_add-self
overflow_add-self c =
    let h : c.self.inside.size + c.poll_size.result < 2 ^ 128 =
    one_more_fits c.self.inside.queue.items c.self.inside.size c.poll_size.result c.self.invariant (omega arith)
    (let e = c.poll_size.ensures in omega arith) in
    search rules
