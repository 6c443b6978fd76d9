use Rattle.ifmap_delta_tests.proofs.Lasting.{would_still}
use Rattle.ifmap_delta_tests.proofs.stepping.reserve.Goals as goal

pub returns-clause-keeps : goal.returns-clause-keeps
returns-clause-keeps c = λ g would.
    would_still g c.args.subscription.now c.reserve.new.self c.args.moved.now.patch c.args.moved.now.new_size c.reserve.ensures.search
    c.reserve.ensures.marks would
