use Rattle.ifmap_filter.specs.Progress.{context}
use Rattle.ifmap_filter.proofs.StandingLaws.{done_refused}
use Rattle.ifmap_filter.proofs.progress.take_done.Goals as goal

pub returns-in_default : goal.returns-in_default
returns-in_default c =
    done_refused (context c.args.standing.now.open_part) c.args.raw c.in_default.not-Name c.in_default.not-CloseParenthesis
    c.in_default.not-CloseBracket
