use Rattle.ifmap_filter.specs.Progress.{context}
use Rattle.ifmap_filter.proofs.StandingLaws.{local_refused}
use Rattle.ifmap_filter.proofs.progress.take_local.Goals as goal

pub returns-in_default : goal.returns-in_default
returns-in_default c =
    local_refused (context c.args.standing.now.open_part) c.args.raw c.in_default.not-Name
