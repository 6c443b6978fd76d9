use Rattle.ifmap_session.specs.Sessions.{is_named}
use Rattle.ifmap_session.proofs.QueueLaws.{named_within, rest_size}
use Rattle.ifmap_session.proofs.queues.LiveSession.drop_name.Goals as goal

pub overflow_sub-self : goal.overflow_sub-self
overflow_sub-self c =
    named_within (is_named c.args.name.now) c.self.inside.queue.items c.self.inside.size c.size_of_named.result c.self.invariant
    (rw c.deref.ensures.value at c.size_of_named.ensures)

pub invariant_of-self : goal.invariant_of-self
invariant_of-self c =
    rest_size (is_named c.args.name.now) c.self.inside.queue.items c.retain_others.new.queue.items c.self.inside.size
    c.size_of_named.result c.self.invariant (rw c.deref.ensures.value at c.size_of_named.ensures) c.retain_others.ensures.items
