use Rattle.ifmap_elem.specs.Tokens.{Lacks}
use Rattle.ifmap_lexer.proofs.WordLaws.{word_not_lacked}
use Rattle.ifmap_lexer.proofs.splitting.has_word.Goals as goal
use Rattle.ifmap_lemmas.specs.Absent.{some_or_not}

pub returns-clause-yes : goal.returns-clause-yes
returns-clause-yes c =
    (some_or_not c.split_word.result _ (Lacks c.args.word.now c.args.bytes.now)
    (λ x k f. word_not_lacked c.args.word.now c.args.bytes.now x.0.now x.1.now c.requires k.bytes_are f) c.split_word.ensures.found
    c.split_word.ensures.none c.is_some.result c.is_some.ensures).0

pub returns-clause-no : goal.returns-clause-no
returns-clause-no c =
    (some_or_not c.split_word.result _ (Lacks c.args.word.now c.args.bytes.now)
    (λ x k f. word_not_lacked c.args.word.now c.args.bytes.now x.0.now x.1.now c.requires k.bytes_are f) c.split_word.ensures.found
    c.split_word.ensures.none c.is_some.result c.is_some.ensures).1
