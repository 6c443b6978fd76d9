use Rattle.ifmap_filter.proofs.StandingLaws.{test_refused}
use Rattle.ifmap_filter.proofs.progress.take_test.Goals as goal

pub returns-in_default : goal.returns-in_default
returns-in_default c =
    test_refused c.args.scope.now c.args.standing.now.open_part.tests c.args.raw c.in_default.not-Any c.in_default.not-Name
