use Rattle.ifmap_elem.specs.Chars.{AllAre}
use Rattle.ifmap_lexer.specs.Cutting.{is_but}
use Rattle.ifmap_lexer.proofs.QuoteLaws.{not_lacked}
use Rattle.ifmap_lexer.proofs.splitting.has_byte.Goals as goal
use Rattle.ifmap_lemmas.specs.Absent.{some_or_not}

pub returns-clause-yes : goal.returns-clause-yes
returns-clause-yes c =
    (some_or_not c.split_round_byte.result _ (AllAre (is_but c.args.byte) c.args.bytes.now)
    (λ x k f. not_lacked c.args.byte c.args.bytes.now x.0.now x.1.now k.bytes_are f) c.split_round_byte.ensures.found
    c.split_round_byte.ensures.none c.is_some.result c.is_some.ensures).0

pub returns-clause-no : goal.returns-clause-no
returns-clause-no c =
    (some_or_not c.split_round_byte.result _ (AllAre (is_but c.args.byte) c.args.bytes.now)
    (λ x k f. not_lacked c.args.byte c.args.bytes.now x.0.now x.1.now k.bytes_are f) c.split_round_byte.ensures.found
    c.split_round_byte.ensures.none c.is_some.result c.is_some.ensures).1
