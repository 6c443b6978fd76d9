use Rattle.std.proofs.Common.{◌≡◌, ℕ, drop}
use Rattle.ifmap_changes.specs.ifmap_graph.Seen.{rows_now}
use Rattle.ifmap_changes.specs.ifmap_machine.Subscribing.{subscribe_ops}
use Rattle.ifmap_subscribes.specs.Bounds.{AreOpsWithin}
use Rattle.ifmap_subscribes.specs.Readying.{CanReady, OnlyHolds, told_then}
use Rattle.ifmap_subscribes.proofs.readying.ready_all.Given as goal

-- the operations that are left make of what is ready what all make of what was ready at first, and what they may take is left of what all
-- may take
abbrev pub invariant-loop-op : goal.invariant-loop-op
invariant-loop-op g l = record {
  can : CanReady l.scene l.parts l.readying;
  holds : OnlyHolds l.fn.parts l.parts;
  steps : (after : ℕ) → AreOpsWithin (rows_now l.fn.parts.graph) (drop l.op-index l.ops) l.steps after
      → AreOpsWithin (rows_now l.fn.parts.graph) l.ops l.fn.steps after;
  ops : subscribe_ops (rows_now l.fn.parts.graph) l.scene.serial (drop l.op-index l.ops) (told_then l.scene l.fn.parts l.readying)
      ≡ subscribe_ops (rows_now l.fn.parts.graph) l.scene.serial l.ops (told_then l.scene l.fn.parts l.fn.readying);
}
