use Rattle.std.proofs.Common.{◌≡◌, Some, sym}
use Rattle.std.proofs.lemmas.Result.{on_ok_weaker}
use Rattle.slab.specs.Slab.{get}
use Rattle.ifmap_graph.specs.Joined.{joined_pair}
use Rattle.ifmap_graph.proofs.Touching.{both_touched}
use Rattle.ifmap_graph.proofs.linking.touch_slot.Goals as goal

pub returns-clause-ok : goal.returns-clause-ok
returns-clause-ok c =
    let j : joined_pair (get c.args.slots.now c.args.at) ≡ Some (c.in-Some.numbers.0, c.in-Some.numbers.1) = sym c.in-Some.ensures
    in on_ok_weaker c.touch_number-2.result
    (λ two. both_touched c.args.slots.now c.args.links.now.items c.touch_number.new.links.items c.touch_number-2.new.links.items c.args.at
    c.in-Some.numbers.0 c.in-Some.numbers.1 j
    (c.requires.pairs c.args.at c.in-Some.numbers.0 c.in-Some.numbers.1 j).2 c.in_ok-touch_number.ensures.ok
    c.touch_number.ensures.touched.others two c.touch_number-2.ensures.touched.others) c.touch_number-2.ensures.ok
