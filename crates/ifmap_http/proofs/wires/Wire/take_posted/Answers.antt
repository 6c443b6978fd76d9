use Rattle.ifmap_http.proofs.Bounds.{body_fits}
use Rattle.ifmap_http.proofs.Reading.{post_lacks, post_read}
use Rattle.ifmap_http.proofs.wires.Wire.take_posted.Goals as goal

pub returns-in-Ok-clause-reads : goal.returns-in-Ok-clause-reads
returns-in-Ok-clause-reads g c =
    rw (← c.self.view_is)
    (λ all told.
    post_read c.self.inside.input c.args.size c.args.terms _ _ all _ c.in-Ok.body.items
    (rw (← c.self.view_is) at c.requires) told (rw c.advance.ensures at c.in-Ok.ensures.body) c.in-Ok.ensures.size)

pub returns-in-Err-Truncated-clause-reads : goal.returns-in-Err-Truncated-clause-reads
returns-in-Err-Truncated-clause-reads g c =
    rw (← c.self.view_is)
    (λ all told.
    post_lacks c.self.inside.input c.args.size c.args.terms _ _ all
    (rw (← c.self.view_is) at c.requires) told (rw c.advance.ensures at (c.in-Err-Truncated.ensures.truncated (cc))))

pub returns-in-Ok-clause-by_reading : goal.returns-in-Ok-clause-by_reading
returns-in-Ok-clause-by_reading g c =
    rw (← c.self.view_is)
    (record {
      answerable = body_fits c.requires.head c.args.terms.client c.args.terms.size c.args.terms.close c.in-Ok.body.items
          c.requires.says c.in-Ok.ensures.size;
      fault = λ e. cc;
      side = c.in-Ok.ensures.side;
    })
