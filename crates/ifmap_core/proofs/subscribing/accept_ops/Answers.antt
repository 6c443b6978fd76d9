use Rattle.ifmap_core.proofs.Subscribed.{live_left}
use Rattle.ifmap_core.proofs.subscribing.accept_ops.Goals as goal

pub queue_size-size-requires : goal.queue_size-size-requires
queue_size-size-requires c = live_left c.args.asking.now c.args.serial c.args.parts.now.sessions c.requires.live
