use Rattle.std.proofs.Common.{sym}
use Rattle.std.specs.Prelude.{◌==◌}
use Rattle.ifmap_lemmas.specs.Branches.{number_itself}
use Rattle.std.proofs.Math.Bool.{not-not}
use Rattle.ifmap_filter.proofs.CharLaws.{cuts_all, cuts_from}
use Rattle.ifmap_filter.proofs.lexing.split_literal.Goals as goal
use Rattle.ifmap_prefixes.specs.ifmap_lexer.Cutting.{is_but}

pub returns-in-Some : goal.returns-in-Some
returns-in-Some c =
    cuts_from (is_but c.args.quote) (λ x. x == c.args.quote) (λ x. sym (not-not (x == c.args.quote))) c.args.text.now c.in-Some.place
    c.in-Some.ensures.cases.0
    c.split_at.result.0.now c.split_at.result.1.now c.utf8.text c.in-Some.ensures.cases.3
    (c.in-Some.ensures.cases.1.0, (c.args.quote, number_itself c.args.quote, c.in-Some.ensures.cases.1.1)) c.split_at.ensures.front
    c.split_at.ensures.back

pub returns-in-None : goal.returns-in-None
returns-in-None c =
    cuts_all (is_but c.args.quote) (λ x. x == c.args.quote) (λ x. sym (not-not (x == c.args.quote))) c.args.text.now c.utf8.text
    c.in-None.ensures.cases
