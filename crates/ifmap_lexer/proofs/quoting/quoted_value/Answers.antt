use Rattle.ifmap_lexer.proofs.QuoteLaws.{no_sign, no_quote, quoted_found, no_quote_takes}
use Rattle.ifmap_lexer.proofs.quoting.quoted_value.Goals as goal
use Rattle.ifmap_lemmas.specs.Absent.{if_none_weaker}
use Rattle.std.proofs.lemmas.Option.{IfSome_then}

pub returns-in_default-clause-none : goal.returns-in_default-clause-none
returns-in_default-clause-none c =
    no_sign c.args.bytes.now c.split_white.result.0.now c.split_white.result.1.now c.split_white.ensures c.in_default.ensures.none

pub returns-in_default-quote_at-clause-none : goal.returns-in_default-quote_at-clause-none
returns-in_default-quote_at-clause-none c =
    no_quote c.args.bytes.now c.split_white.result.0.now c.split_white.result.1.now c.split_white.ensures
    c.in-Some.after.now c.split_white-2.result.0.now c.split_white-2.result.1.now c.in-Some.ensures.found c.split_white-2.ensures
    c.in_default-quote_at.ensures.none

pub returns-clause-found : goal.returns-clause-found
returns-clause-found c =
    IfSome_then c.split_round_byte.result c.split_round_byte.ensures.found
    (λ x k. quoted_found c.args.bytes.now c.split_white.result.0.now c.split_white.result.1.now c.split_white.ensures
    c.in-Some.after.now c.split_white-2.result.0.now c.split_white-2.result.1.now c.in-Some.ensures.found c.split_white-2.ensures
    c.in-Some-quote_at.quote c.in-Some-quote_at.inside.now c.in-Some-quote_at.ensures.found.0 c.in-Some-quote_at.ensures.found.1 x.0.now
    x.1.now k)

pub returns-clause-none : goal.returns-clause-none
returns-clause-none c =
    if_none_weaker c.split_round_byte.result _ _
    (λ f. no_quote_takes c.args.bytes.now c.split_white.result.0.now c.split_white.result.1.now c.split_white.ensures
    c.in-Some.after.now c.split_white-2.result.0.now c.split_white-2.result.1.now c.in-Some.ensures.found c.split_white-2.ensures
    c.in-Some-quote_at.quote c.in-Some-quote_at.inside.now c.in-Some-quote_at.ensures.found.0 c.in-Some-quote_at.ensures.found.1 f)
    c.split_round_byte.ensures.none
