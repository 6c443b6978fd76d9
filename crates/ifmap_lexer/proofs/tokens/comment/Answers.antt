use Rattle.ifmap_lexer.proofs.TokenLaws.{no_comment_begins, no_dashes, no_comment_end, no_comment_characters}
use Rattle.ifmap_lexer.proofs.tokens.comment.Goals as goal

pub returns-in_default-clause-refused : goal.returns-in_default-clause-refused
returns-in_default-clause-refused c = no_comment_begins c.args.bytes.now c.in_default.ensures.none

pub returns-in_default-split_word-clause-refused : goal.returns-in_default-split_word-clause-refused
returns-in_default-split_word-clause-refused c =
    no_dashes c.args.bytes.now c.in-Some.inner.now c.in-Some.ensures.found c.in_default-split_word.ensures.none

pub returns-in_default-after_word-clause-refused : goal.returns-in_default-after_word-clause-refused
returns-in_default-after_word-clause-refused c =
    no_comment_end c.args.bytes.now c.in-Some.inner.now c.in-Some.ensures.found c.in-Some-split_word.content.now
    c.in-Some-split_word.end.now c.in-Some-split_word.ensures.found c.in_default-after_word.ensures.none

pub returns-in-None-clause-refused : goal.returns-in-None-clause-refused
returns-in-None-clause-refused c =
    no_comment_characters c.args.bytes.now c.in-Some.inner.now c.in-Some.ensures.found c.in-Some-split_word.content.now
    c.in-Some-split_word.end.now c.in-Some-split_word.ensures.found c.in-None.ensures.none
