use Rattle.std.proofs.Common.{◌≡◌, ◌∙◌, ap, sym, subst, None}
use Rattle.std.specs.Prelude.{IfNone, IfSome, chars}
use Rattle.std.specs.Option.{option_map}
use Rattle.ifmap_filter.specs.RawTokens.{IsFrontToken, token_of_raw}
use Rattle.ifmap_filter.proofs.TokenLaws.{no_symbol, nothing_there, one_symbol, quote_begins_literal, start_begins_name}
use Rattle.ifmap_filter.proofs.lexing.token_at.Goals as goal

pub returns-then-is_quote-clause-found : goal.returns-then-is_quote-clause-found
returns-then-is_quote-clause-found c =
    subst (λ x. IfSome c.literal_at.result (λ f. IsFrontToken x f.0 f.1.now))
    (sym (quote_begins_literal (chars c.args.text.now) c.in-Some.first (chars c.in-Some.rest.now) c.in-Some.ensures.found
    (sym c.is_quote.ensures ∙ c.if-is_quote.true)))
    c.literal_at.ensures.found

pub returns-then-is_quote-clause-none : goal.returns-then-is_quote-clause-none
returns-then-is_quote-clause-none c =
    subst (λ x. IfNone c.literal_at.result (x ≡ None))
    (sym (quote_begins_literal (chars c.args.text.now) c.in-Some.first (chars c.in-Some.rest.now) c.in-Some.ensures.found
    (sym c.is_quote.ensures ∙ c.if-is_quote.true)))
    c.literal_at.ensures.none

pub returns-then-is_name_start-clause-found : goal.returns-then-is_name_start-clause-found
returns-then-is_name_start-clause-found c =
    subst (λ x. IfSome c.name_at.result (λ f. IsFrontToken x f.0 f.1.now))
    (sym (start_begins_name (chars c.args.text.now) c.in-Some.first (chars c.in-Some.rest.now) c.in-Some.ensures.found
    (sym c.is_quote.ensures ∙ c.if-is_quote.false)
    (sym c.is_name_start.ensures ∙ c.if-is_name_start.true)))
    c.name_at.ensures.found

pub returns-then-is_name_start-clause-none : goal.returns-then-is_name_start-clause-none
returns-then-is_name_start-clause-none c =
    subst (λ x. IfNone c.name_at.result (x ≡ None))
    (sym (start_begins_name (chars c.args.text.now) c.in-Some.first (chars c.in-Some.rest.now) c.in-Some.ensures.found
    (sym c.is_quote.ensures ∙ c.if-is_quote.false)
    (sym c.is_name_start.ensures ∙ c.if-is_name_start.true)))
    c.name_at.ensures.none

pub returns-in-None-clause-none : goal.returns-in-None-clause-none
returns-in-None-clause-none c =
    no_symbol (chars c.args.text.now) c.in-Some.first (chars c.in-Some.rest.now) c.in-Some.ensures.found
    (sym c.is_quote.ensures ∙ c.if-is_quote.false)
    (sym c.is_name_start.ensures ∙ c.if-is_name_start.false) (sym c.symbol_of.ensures ∙ ap (option_map token_of_raw) c.in-None.is)

pub returns-in_default-clause-none : goal.returns-in_default-clause-none
returns-in_default-clause-none c = nothing_there (chars c.args.text.now) c.in_default.ensures.none

pub returns-in-Some-symbol_of-clause-found : goal.returns-in-Some-symbol_of-clause-found
returns-in-Some-symbol_of-clause-found c =
    one_symbol (chars c.args.text.now) c.in-Some.first (chars c.in-Some.rest.now) c.in-Some.ensures.found
    (sym c.is_quote.ensures ∙ c.if-is_quote.false)
    (sym c.is_name_start.ensures ∙ c.if-is_name_start.false) (token_of_raw c.in-Some-symbol_of.raw)
    (sym c.symbol_of.ensures ∙ ap (option_map token_of_raw) c.in-Some-symbol_of.is)
