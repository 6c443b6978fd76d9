use Rattle.std.proofs.Common.{List, reverse, subst}
use Rattle.std.proofs.lemmas.Result.{err_from_is_err_and}
use Rattle.ifmap_reader.specs.NextToken.{EndsInnermost}
use Rattle.ifmap_reader.specs.declared.open_elements.OpenElement.{OpenElement}
use Rattle.ifmap_reader.proofs.NextTokens.{innermost_ends, innermost_refused}
use Rattle.ifmap_reader.proofs.next_token.take_next_inside.Goals as goal

pub returns-in_err-standing : goal.returns-in_err-standing
returns-in_err-standing c =
    let p = err_from_is_err_and c.from_residual.result c.from_residual.ensures.1 in
    rw (p.1, p.2) (innermost_refused c.args.depth c.args.open_elements c.args.bytes.now c.in-Some.length c.in_err-standing.field-0.0
    (subst (λ (fs : List OpenElement). EndsInnermost (reverse fs) c.args.bytes.now c.in-Some.length)
    c.as_slice.ensures c.in-Some.ensures)
    c.in_err-standing.ensures)

pub returns : goal.returns
returns c =
    innermost_ends c.args.depth c.args.open_elements c.args.bytes.now c.in-Some.length c.in_ok-standing.standing
    (subst (λ (fs : List OpenElement). EndsInnermost (reverse fs) c.args.bytes.now c.in-Some.length)
    c.as_slice.ensures c.in-Some.ensures)
    c.in_ok-standing.ensures
