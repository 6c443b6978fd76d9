use Rattle.std.proofs.Common.{◌≡◌, take}
use Rattle.std.specs.List.{filter_map}
use Rattle.ifmap_plans.specs.declared.plans.ItemChange.{ItemChange}
use Rattle.ifmap_graph.specs.Touched.{flipped_slot}
use Rattle.ifmap_graph.proofs.linking.flipped_slots.Given as goal

abbrev pub invariant-loop-change : goal.invariant-loop-change
invariant-loop-change l = l.touched.items ≡ filter_map (λ (c : ItemChange). flipped_slot l.shelves c.item) (take l.change-index l.changes)
