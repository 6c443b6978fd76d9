use Rattle.ifmap_changes.specs.Changes.{seen_next}
use Rattle.ifmap_delta_tests.proofs.stepping.prepare_change.Goals as goal

pub returns-clause-keeps : goal.returns-clause-keeps
returns-clause-keeps c = c.reserve.ensures.keeps (seen_next c.args.graph.now) c.in_ok-moved.ensures
