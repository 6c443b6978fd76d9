use Rattle.std.proofs.Common.{ap, ◌∙◌}
use Rattle.ifmap_elem.specs.Values.{line_ends}
use Rattle.ifmap_lexer.proofs.TokenLaws.{no_section_begins, no_brackets, no_section_characters, section_found}
use Rattle.ifmap_lexer.proofs.tokens.section.Goals as goal

pub returns-in_default-clause-refused : goal.returns-in_default-clause-refused
returns-in_default-clause-refused c = no_section_begins c.args.bytes.now c.in_default.ensures.none

pub returns-in_default-split_word-clause-refused : goal.returns-in_default-split_word-clause-refused
returns-in_default-split_word-clause-refused c =
    no_brackets c.args.bytes.now c.in-Some.inner.now c.in-Some.ensures.found c.in_default-split_word.ensures.none

pub returns-in_default-characters-clause-refused : goal.returns-in_default-characters-clause-refused
returns-in_default-characters-clause-refused c =
    no_section_characters c.args.bytes.now c.in-Some.inner.now c.in-Some.ensures.found c.in-Some-split_word.content.now
    c.in-Some-split_word.rest.now c.in-Some-split_word.ensures.found c.in_default-characters.ensures.none

pub returns-clause-found : goal.returns-clause-found
returns-clause-found c =
    section_found c.args.bytes.now c.in-Some.inner.now c.in-Some.ensures.found c.in-Some-split_word.content.now
    c.in-Some-split_word.rest.now c.in-Some-split_word.ensures.found
    c.in_ok-plain_meaning.field-0 c.in-Some-characters.ensures.found.1
    (c.in_ok-plain_meaning.ensures ∙ ap line_ends c.in-Some-characters.ensures.found.0)
