use Rattle.std.proofs.Common.{subst, sym, ◌∙◌}
use Rattle.ifmap_elem.specs.Tokens.{TakesToken}
use Rattle.ifmap_elem.specs.laws.OneToken.{one_token}
use Rattle.std.proofs.lemmas.Result.{err_from_is_err_and}
use Rattle.ifmap_lexer.proofs.TokenLaws.{token_length, rest_is_shorter, malformed_of}
use Rattle.ifmap_lexer.proofs.lexing.token_of.Goals as goal

pub overflow_sub-length : goal.overflow_sub-length
overflow_sub-length c = rest_is_shorter c.args.bytes.now c.in_ok-token.token c.in_ok-token.rest.now c.in_ok-token.ensures.found

pub returns-clause-taken : goal.returns-clause-taken
returns-clause-taken c =
    let found = c.in_ok-token.ensures.found in
    subst (TakesToken c.args.bytes.now c.in_ok-token.token)
    (sym (token_length c.args.bytes.now c.in_ok-token.token c.in_ok-token.rest.now found).2) found

pub returns-clause-length : goal.returns-clause-length
returns-clause-length c =
    let n = token_length c.args.bytes.now c.in_ok-token.token c.in_ok-token.rest.now c.in_ok-token.ensures.found in (n.0, n.1)

pub returns-clause-alone : goal.returns-clause-alone
returns-clause-alone c = λ t rest l.
    let found = c.in_ok-token.ensures.found in
    let both = one_token c.args.bytes.now t c.in_ok-token.token rest c.in_ok-token.rest.now l found in
    (both.0, both.1 ∙ sym (token_length c.args.bytes.now c.in_ok-token.token c.in_ok-token.rest.now found).2)

pub returns-in_err-token-clause-malformed : goal.returns-in_err-token-clause-malformed
returns-in_err-token-clause-malformed c =
    let p = err_from_is_err_and c.from_residual.result c.from_residual.ensures.1 in
    rw (p.1, p.2) (malformed_of c.args.bytes.now c.in_err-token.field-0.0 c.in_err-token.ensures.refused)
