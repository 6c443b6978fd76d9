use Rattle.std.proofs.Common.{◌∙◌, refl, arith}
use Rattle.ifmap_graph.proofs.Joining.{one_longer}
use Rattle.ifmap_graph.proofs.placing.lengthen.Goals as goal

pub room-init : goal.room-init
room-init c = ((λ v. refl), omega arith)

pub room-preserved : goal.room-preserved
room-preserved c = (
  (λ v. one_longer c.room.links.items c.push.new.self.items c.new.result c.in_ok-push.ensures.items c.new.ensures v ∙ c.room.invariant.0 v),
  omega (arith, c.room.invariant.1, c.in_ok-push.ensures.len),
)
