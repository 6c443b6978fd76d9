use Rattle.std.proofs.Common.{rules, ◌+◌, ◌^◌, ◌<◌, take, arith}
use Rattle.ifmap_session.specs.Sessions.{is_named}
use Rattle.ifmap_session.proofs.QueueLaws.{named_more_fits}
use Rattle.ifmap_session.proofs.queues.size_of_named.Goals as goal

pub overflow_add-size : goal.overflow_add-size
overflow_add-size c =
    let h : c.loop-item.size + c.poll_size.result < 2 ^ 128 =
    named_more_fits (is_named c.args.name.now) (take c.loop-item.item-index c.args.queue.now) c.loop-item.size c.poll_size.result
    c.loop-item.invariant (search rules) (let e = c.poll_size.ensures in omega arith) in
    search rules
