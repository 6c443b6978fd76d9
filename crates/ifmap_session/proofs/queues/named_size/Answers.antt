use Rattle.std.proofs.Common.{◌∙◌, ap, ◌-◌, ◌^◌, filter, min}
use Rattle.ifmap_session.specs.Sessions.{is_named}
use Rattle.ifmap_session.proofs.QueueLaws.{counted_whole}
use Rattle.ifmap_session.proofs.queues.named_size.Goals as goal

pub returns : goal.returns
returns c = c.min.ensures ∙ ap (λ n. min n (2 ^ 64 - 1)) c.size_of_named.ensures
    ∙ counted_whole (filter (is_named c.args.name.now) c.args.items.now)
