use Rattle.std.proofs.Common.{◌∙◌, ap, ◌-◌, ◌^◌, min}
use Rattle.ifmap_session.proofs.QueueLaws.{counted_whole}
use Rattle.ifmap_session.proofs.queues.LiveSession.size.Goals as goal

pub returns-clause-size : goal.returns-clause-size
returns-clause-size c =
    rw (← c.self.view_is) (c.min.ensures ∙ ap (λ n. min n (2 ^ 64 - 1)) c.self.invariant ∙ counted_whole c.self.inside.queue.items)
