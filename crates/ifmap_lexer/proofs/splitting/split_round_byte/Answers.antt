use Rattle.std.proofs.Common.{arith}
use Rattle.ifmap_lexer.proofs.WordLaws.{byte_found}
use Rattle.ifmap_lexer.proofs.splitting.split_round_byte.Goals as goal

pub split_round-requires : goal.split_round-requires
split_round-requires c = omega (arith, c.in-Some.ensures.0.high)

pub returns-in-Some-clause-found : goal.returns-in-Some-clause-found
returns-in-Some-clause-found c =
    byte_found c.args.byte c.args.bytes.now c.split_round.result.0.now c.split_round.result.1.now c.in-Some.place c.in-Some.ensures.0
    c.in-Some.ensures.1 c.split_round.ensures.front c.split_round.ensures.after
