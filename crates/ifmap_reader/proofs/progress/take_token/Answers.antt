use Rattle.std.proofs.Common.{ap}
use Rattle.ifmap_reader.specs.Progress.{where_is}
use Rattle.ifmap_reader.proofs.Leading.{declaration_at_start, answers_at_start}
use Rattle.ifmap_reader.proofs.progress.take_token.Goals as goal

pub returns-in-Declaration : goal.returns-in-Declaration
returns-in-Declaration c =
    declaration_at_start c.args.depth (where_is c.args.standing) c.args.token c.new.result.items
    (ap where_is c.in-Start.is) c.in-Declaration.is c.new.ensures.items

pub returns-in_default : goal.returns-in_default
returns-in_default c =
    answers_at_start c.args.depth c.args.token c.in_default.not-Declaration
    (where_is c.args.standing) c.new-in_default.result.items c.take_inside.result
    (ap where_is c.in-Start.is) c.new-in_default.ensures.items c.take_inside.ensures
