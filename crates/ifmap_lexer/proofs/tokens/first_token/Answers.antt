use Rattle.ifmap_elem.specs.declared.tokens.TokenKind.TheVariants as kinds
use Rattle.ifmap_lexer.proofs.TokenLaws.{kind_refused, of_no_kind}
use Rattle.ifmap_lexer.proofs.tokens.first_token.Goals as goal

pub returns-in-Nothing-clause-refused : goal.returns-in-Nothing-clause-refused
returns-in-Nothing-clause-refused c = of_no_kind c.args.bytes.now c.in-Nothing.ensures

pub returns-in-Text-clause-refused : goal.returns-in-Text-clause-refused
returns-in-Text-clause-refused c = kind_refused kinds.Text c.args.bytes.now c.text.result c.in-Text.ensures c.text.ensures.refused

pub returns-in-Declaration-clause-refused : goal.returns-in-Declaration-clause-refused
returns-in-Declaration-clause-refused c =
    kind_refused kinds.Declaration c.args.bytes.now c.declaration.result c.in-Declaration.ensures c.declaration.ensures.refused

pub returns-in-End-clause-refused : goal.returns-in-End-clause-refused
returns-in-End-clause-refused c = kind_refused kinds.End c.args.bytes.now c.end_tag.result c.in-End.ensures c.end_tag.ensures.refused

pub returns-in-Tag-clause-refused : goal.returns-in-Tag-clause-refused
returns-in-Tag-clause-refused c = kind_refused kinds.Tag c.args.bytes.now c.tag.result c.in-Tag.ensures c.tag.ensures.refused

pub returns-in-Comment-clause-refused : goal.returns-in-Comment-clause-refused
returns-in-Comment-clause-refused c =
    kind_refused kinds.Comment c.args.bytes.now c.comment.result c.in-Comment.ensures c.comment.ensures.refused

pub returns-in-Section-clause-refused : goal.returns-in-Section-clause-refused
returns-in-Section-clause-refused c =
    kind_refused kinds.Section c.args.bytes.now c.section.result c.in-Section.ensures c.section.ensures.refused
