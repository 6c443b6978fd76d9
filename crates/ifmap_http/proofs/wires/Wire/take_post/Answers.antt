use Rattle.std.proofs.Common.{inr, refl}
use Rattle.ifmap_heads.specs.Posts.{ReadsPost, ended, truncated}
use Rattle.ifmap_http.proofs.Bounds.{status_fits}
use Rattle.ifmap_http.proofs.Gets.{gets_nothing, gets_refused, takes_awaited, takes_posted, told_whole}
use Rattle.ifmap_http.proofs.wires.Wire.take_post.Goals as goal

pub returns-in-Taken : goal.returns-in-Taken
returns-in-Taken g c =
    rw (← c.self.view_is)
    (takes_posted g.L.Source.left g.L.Source.faults g.L.Source.outgoing _ _ _ _ c.in-Taken.size c.in-Taken.terms c.take_posted.result
    c.in-Taken.ensures.is c.in-Taken.ensures.taken c.in-Taken.ensures.side c.in-Taken.ensures.quiet
    c.take_posted.ensures.reads c.take_posted.ensures.by_reading c.take_posted.ensures.quiet)

pub returns-in-Refused : goal.returns-in-Refused
returns-in-Refused g c =
    rw (← c.self.view_is)
    (takes_awaited g.L.Source.left g.L.Source.faults g.L.Source.outgoing _ _ _
    (gets_refused c.in-Refused.status _ _ _ _ c.in-Refused.ensures.taken c.in-Refused.ensures.is)
    (record {
      answerable = status_fits c.in-Refused.status c.await_post.new.input (g.L.Source.left c.await_post.new.source) c.in-Refused.ensures.is;
      fault = λ e. cc;
      side = c.in-Refused.ensures.side;
    })
    c.in-Refused.ensures.quiet)

pub returns-in-Ended : goal.returns-in-Ended
returns-in-Ended g c =
    rw (← c.self.view_is)
    (takes_awaited g.L.Source.left g.L.Source.faults g.L.Source.outgoing _ _ _
    (told_whole (λ xs. ReadsPost xs ended) _ _ _ _ c.in-Ended.ensures.taken (inr c.in-Ended.ensures.is))
    (record { answerable = tt; fault = λ e. cc; side = c.in-Ended.ensures.side })
    c.in-Ended.ensures.quiet)

pub returns-in-Truncated : goal.returns-in-Truncated
returns-in-Truncated g c =
    rw (← c.self.view_is)
    (takes_awaited g.L.Source.left g.L.Source.faults g.L.Source.outgoing _ _ _
    (told_whole (λ xs. ReadsPost xs truncated) _ _ _ _ c.in-Truncated.ensures.taken (inr c.in-Truncated.ensures.is))
    (record { answerable = tt; fault = λ e. cc; side = c.in-Truncated.ensures.side })
    c.in-Truncated.ensures.quiet)

pub returns-in-ReadFault : goal.returns-in-ReadFault
returns-in-ReadFault g c =
    rw (← c.self.view_is)
    (takes_awaited g.L.Source.left g.L.Source.faults g.L.Source.outgoing _ _ _ (gets_nothing _)
    (record { answerable = tt; fault = λ e. c.in-ReadFault.ensures.fault refl; side = c.in-ReadFault.ensures.side })
    c.in-ReadFault.ensures.quiet)

pub returns-in-NoMemory : goal.returns-in-NoMemory
returns-in-NoMemory g c =
    rw (← c.self.view_is)
    (takes_awaited g.L.Source.left g.L.Source.faults g.L.Source.outgoing _ _ _ (gets_nothing _)
    (record { answerable = tt; fault = λ e. cc; side = c.in-NoMemory.ensures.side })
    c.in-NoMemory.ensures.quiet)
