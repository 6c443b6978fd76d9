use Rattle.ifmap_filter.proofs.StandingLaws.{tested_refused}
use Rattle.ifmap_filter.proofs.progress.take_tested.Goals as goal

pub returns-in_default : goal.returns-in_default
returns-in_default c =
    tested_refused c.args.standing.now.open_part.tests c.args.raw c.in_default.not-Name
