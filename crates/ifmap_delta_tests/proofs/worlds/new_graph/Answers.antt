use Rattle.ifmap_delta_tests.proofs.Lasting.{few_empty, new_quiet}
use Rattle.ifmap_delta_tests.proofs.worlds.new_graph.Goals as goal

pub hold-requires-clause-few : goal.hold-requires-clause-few
hold-requires-clause-few c = few_empty c.new-graph.result c.new-graph.ensures.own

pub returns-clause-quiet : goal.returns-clause-quiet
returns-clause-quiet c =
    let held = c.in_ok-number.ensures
    in new_quiet c.new-graph.result c.hold.new.self c.args.id.now c.new-graph.ensures.shelves c.hold.ensures.keeps.shelves
    (c.hold.ensures.keeps.still c.new-graph.ensures.still) c.new-graph.ensures.own held.own
