use Rattle.std.proofs.Common.{subst, List, ℕ}
use Rattle.ifmap_elem.specs.Tokens.{TakesToken}
use Rattle.ifmap_lexer.specs.There.{end_token}
use Rattle.ifmap_lexer.proofs.EndLaws.{end_alone}
use Rattle.ifmap_lexer.proofs.lexing.end_tag_length.Goals as goal

pub returns-clause-taken : goal.returns-clause-taken
returns-clause-taken c =
    end_alone c.args.prefix.now c.args.local.now c.args.bytes.now c.in_ok-rest.rest.now
    (subst (λ (x : List ℕ). TakesToken c.args.bytes.now (end_token x c.args.local.now) c.in_ok-rest.rest.now)
    c.as_bytes.ensures
    (subst (λ (x : List ℕ). TakesToken c.args.bytes.now (end_token c.as_bytes.result.now x) c.in_ok-rest.rest.now)
    c.as_bytes-2.ensures c.in_ok-rest.ensures))
