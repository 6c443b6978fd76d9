use Rattle.std.proofs.Common.{◌++◌, [], ap, ◌∙◌}
use Rattle.std.specs.List.{cons_option}
use Rattle.ifmap_lemmas.specs.Stepping.{found_more}
use Rattle.ifmap_plans.specs.declared.plans.ItemChange.{ItemChange}
use Rattle.ifmap_graph.specs.Touched.{flipped_slot}
use Rattle.ifmap_graph.proofs.linking.flipped_slots.Goals as goal

pub loop-change-preserved : goal.loop-change-preserved
loop-change-preserved c =
    found_more (λ (x : ItemChange). flipped_slot c.args.shelves.now x.item) c.change-item.result c.args.changes.now
    c.loop-change.change-index [] _ _
    c.loop-change-test.true c.loop-change.invariant
    (c.in_ok-add_slot.ensures ∙ ap (λ o. c.loop-change.touched.items ++ cons_option o []) c.flipped_slot.ensures
    ∙ ap (λ (x : ItemChange). c.loop-change.touched.items ++ cons_option (flipped_slot c.args.shelves.now x.item) []) c.change-item.is)
