use Rattle.ifmap_filter.specs.Progress.{context}
use Rattle.ifmap_filter.proofs.StandingLaws.{factor_refused}
use Rattle.ifmap_filter.proofs.progress.take_factor.Goals as goal

pub returns-in_default : goal.returns-in_default
returns-in_default c =
    factor_refused c.args.scope.now (context c.args.standing.now.open_part) c.args.raw c.in_default.not-OpenParenthesis
    c.in_default.not-At c.in_default.not-Name
