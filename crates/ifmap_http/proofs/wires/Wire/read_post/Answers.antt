use Rattle.ifmap_http.proofs.Gets.{takes_whether_spent}
use Rattle.ifmap_http.proofs.wires.Wire.read_post.Goals as goal

pub returns-clause-takes : goal.returns-clause-takes
returns-clause-takes g c =
    takes_whether_spent g.L.Source.left g.L.Source.faults g.L.Source.outgoing _ _ _ _ (rw (← c.self.view_is) at c.take_post-got.ensures)
