use Rattle.std.proofs.lemmas.Bool.{both_ways}
use Rattle.std.proofs.Common.{arith}
use Rattle.ifmap_command.proofs.Asking.{number_beyond}
use Rattle.ifmap_command.proofs.forms.number_within.Goals as goal

pub returns-else-is_within : goal.returns-else-is_within
returns-else-is_within c = λ k some few e.
    number_beyond c.in_ok-number.number c.args.most k c.args.text.now c.in_ok-number.ensures (omega arith)
    (λ within. both_ways c.is_within.result c.if-is_within.false (c.is_within.ensures.1 within)) some few e
