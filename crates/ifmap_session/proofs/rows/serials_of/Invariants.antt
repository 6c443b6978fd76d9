use Rattle.std.proofs.Common.{◌≡◌, ◌-◌, map, take}
use Rattle.ifmap_session.specs.Rows.{serial_at}
use Rattle.ifmap_session.proofs.rows.serials_of.Given as goal

abbrev pub invariant-loop-node : goal.invariant-loop-node
invariant-loop-node l = l.serials.items ≡ map (λ node. serial_at l.rows (node - l.width)) (take l.node-index l.nodes)
