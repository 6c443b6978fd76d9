use Rattle.std.proofs.Common.{ap}
use Rattle.ifmap_core.proofs.LaterParts.{first_parts}
use Rattle.ifmap_core.proofs.machine.Core.new.Goals as goal
use Rattle.ifmap_subscribes.specs.ifmap_graph.Shelved.{list_at, rows_by}
use Rattle.ifmap_subscribes.specs.ifmap_graph.Sides.{list_now}

pub invariant_of-result : goal.invariant_of-result
invariant_of-result c = record {
  sound = first_parts (record { graph = c.new-2.result; sessions = c.new-3.result; standing = c.new-4.result }) c.new-2.ensures.still
      (ap (rows_by (list_at list_now)) c.new-2.ensures.shelves) c.new-2.ensures.own c.new-3.ensures.live
      c.new-4.ensures.items;
  lean = c.new-2.ensures.lean;
  time = c.requires;
}
