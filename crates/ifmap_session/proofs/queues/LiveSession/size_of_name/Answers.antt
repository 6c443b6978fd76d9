use Rattle.ifmap_session.proofs.queues.LiveSession.size_of_name.Goals as goal

pub returns : goal.returns
returns c = rw (← c.self.view_is) (rw c.deref.ensures.value at c.named_size.ensures)
