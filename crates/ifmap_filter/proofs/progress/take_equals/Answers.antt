use Rattle.ifmap_filter.specs.Progress.{context}
use Rattle.ifmap_filter.proofs.StandingLaws.{equals_refused}
use Rattle.ifmap_filter.proofs.progress.take_equals.Goals as goal

pub returns-in_default : goal.returns-in_default
returns-in_default c =
    equals_refused (context c.args.standing.now.open_part) c.args.standing.now.operand c.args.raw c.in_default.not-EqualsSign
