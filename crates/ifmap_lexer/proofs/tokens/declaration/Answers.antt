use Rattle.ifmap_lexer.proofs.TokenLaws.{no_declaration}
use Rattle.ifmap_lexer.proofs.tokens.declaration.Goals as goal

pub returns-in-None-clause-refused : goal.returns-in-None-clause-refused
returns-in-None-clause-refused c = no_declaration c.args.bytes.now c.in-None.ensures.none
