use Rattle.std.proofs.Common.{arith}
use Rattle.ifmap_lexer.proofs.WordLaws.{word_found, lacks_from}
use Rattle.ifmap_lexer.proofs.splitting.split_word.Goals as goal

pub split_round-requires : goal.split_round-requires
split_round-requires c = c.in-Some.ensures.1.fits

pub returns-in-Some-clause-found : goal.returns-in-Some-clause-found
returns-in-Some-clause-found c =
    word_found c.args.word.now c.args.bytes.now c.split_round.result.0.now c.split_round.result.1.now c.in-Some.place c.requires
    c.in-Some.ensures.0 c.in-Some.ensures.1 c.split_round.ensures.front c.split_round.ensures.after

pub returns-in-None-clause-none : goal.returns-in-None-clause-none
returns-in-None-clause-none c =
    lacks_from c.args.word.now c.args.bytes.now (λ k o. c.in-None.ensures k (omega arith) (omega (arith, o.fits)) o)
