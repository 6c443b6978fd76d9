use Rattle.std.proofs.Common.{◌≡◌, inl, refl, subst, sym, None}
use Rattle.std.specs.Prelude.{IfNone, IfSome, chars}
use Rattle.ifmap_filter.specs.Progress.{StandsAt, follow_token, filter_state}
use Rattle.ifmap_filter.specs.RawTokens.{IsFrontToken, token_of_raw}
use Rattle.ifmap_filter.specs.Tokens.{token_at}
use Rattle.ifmap_filter.proofs.parsing.read_token.Goals as goal

pub returns-clause-next : goal.returns-clause-next
returns-clause-next c = record {
  token = token_of_raw c.in-Some.raw;
  after = chars c.in-Some.after.now;
  is_there = subst (λ o. IfSome o (λ f. IsFrontToken (token_at (chars c.args.rest.now)) f.0 f.1.now)) c.in-Some.is c.token_at.ensures.found;
  follows = sym (subst (λ b. StandsAt b c.take_token.new.standing
      (follow_token c.args.scope.now (filter_state c.args.standing.now) (token_of_raw c.in-Some.raw))) c.if-not-allowed.false
      c.in_ok-allowed.ensures);
  left_is = c.without_white.ensures;
  is_text = c.without_white.utf8;
}

pub returns-in_default-clause-refused : goal.returns-in_default-clause-refused
returns-in_default-clause-refused c =
    (refl, inl (subst (λ o. IfNone o (token_at (chars c.args.rest.now) ≡ None)) c.in_default.is c.token_at.ensures.none))
