use Rattle.std.proofs.Common.{arith}
use Rattle.ifmap_lexer.proofs.TokenLaws.{token_length}
use Rattle.ifmap_lexer.proofs.deciding.Tokens.{token_or_none}
use Rattle.ifmap_lexer.proofs.laws.token_stands_or_none.Goals as goal

pub returns-clause-decided : goal.returns-clause-decided
returns-clause-decided c = token_or_none

pub returns-clause-some_bytes : goal.returns-clause-some_bytes
returns-clause-some_bytes c = λ bytes t rest l. let n = token_length bytes t rest l in omega (arith, n.0)
