use Rattle.std.proofs.lemmas.Result.{err_from_is_err_and}
use Rattle.ifmap_elem.specs.Kinds.{Stands}
use Rattle.ifmap_elem.specs.declared.tokens.TokenKind.TheVariants as kinds
use Rattle.ifmap_lexer.proofs.Basics.{refuses_by}
use Rattle.ifmap_lexer.proofs.TokenLaws.{no_end_begins, end_name, no_end_end}
use Rattle.ifmap_lexer.proofs.tokens.end_tag.Goals as goal
use Rattle.ifmap_lexer.specs.There.{SomeName}

pub returns-in_default-clause-refused : goal.returns-in_default-clause-refused
returns-in_default-clause-refused c = no_end_begins c.args.bytes.now c.in_default.ensures.none

pub returns-in_err-name-clause-refused : goal.returns-in_err-name-clause-refused
returns-in_err-name-clause-refused c =
    let p = err_from_is_err_and c.from_residual.result c.from_residual.ensures.1 in
    rw (p.1, p.2) (refuses_by c.in_err-name.field-0.0 (SomeName c.in-Some.inner.now) (Stands kinds.End c.args.bytes.now)
    (end_name c.args.bytes.now c.in-Some.inner.now c.in-Some.ensures.found) c.in_err-name.ensures.refused)

pub returns-in-None-clause-refused : goal.returns-in-None-clause-refused
returns-in-None-clause-refused c =
    no_end_end c.args.bytes.now c.in-Some.inner.now c.in-Some.ensures.found c.in_ok-name.name c.in_ok-name.after.now
    c.split_white.result.0.now c.split_white.result.1.now c.in_ok-name.ensures.found c.split_white.ensures c.in-None.ensures.none
