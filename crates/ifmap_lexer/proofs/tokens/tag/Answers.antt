use Rattle.std.proofs.lemmas.Result.{err_from_is_err_and}
use Rattle.ifmap_elem.specs.Kinds.{Stands}
use Rattle.ifmap_elem.specs.declared.tokens.TokenKind.TheVariants as kinds
use Rattle.ifmap_lexer.proofs.Basics.{refuses_by}
use Rattle.ifmap_lexer.proofs.TokenLaws.{some_tag, no_tag_end, start_found}
use Rattle.ifmap_lexer.proofs.tokens.tag.Goals as goal
use Rattle.ifmap_lexer.specs.There.{SomeTag}

pub returns-in_err-tag-clause-refused : goal.returns-in_err-tag-clause-refused
returns-in_err-tag-clause-refused c =
    let p = err_from_is_err_and c.from_residual.result c.from_residual.ensures.1 in
    rw (p.1, p.2) (refuses_by c.in_err-tag.field-0.0 (SomeTag c.args.bytes.now) (Stands kinds.Tag c.args.bytes.now)
    (some_tag c.args.bytes.now) c.in_err-tag.ensures.refused)

pub returns-in-Some-clause-found : goal.returns-in-Some-clause-found
returns-in-Some-clause-found c =
    start_found c.args.bytes.now c.in_ok-tag.tag c.in_ok-tag.end.now c.in-Some.rest.now c.in_ok-tag.ensures.found.0 c.in-Some.ensures.found

pub returns-in-None-clause-refused : goal.returns-in-None-clause-refused
returns-in-None-clause-refused c =
    no_tag_end c.args.bytes.now c.in_ok-tag.tag c.in_ok-tag.end.now c.in_ok-tag.ensures.found.0 c.in_ok-tag.ensures.found.1
    c.in_default.ensures.none c.in-None.ensures.none
