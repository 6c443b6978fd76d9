use Rattle.std.proofs.Common.{sym, ◌∙◌}
use Rattle.std.proofs.lemmas.Result.{err_from_is_err_and}
use Rattle.ifmap_lemmas.specs.Joined.{none_by_length, some_by_length}
use Rattle.ifmap_lexer.proofs.AssignmentLaws.{no_white, some_name, no_value, some_value, assignment_found, is_shorter}
use Rattle.ifmap_lexer.proofs.Basics.{refuses_by}
use Rattle.ifmap_lexer.proofs.tags.assignment_of.Goals as goal
use Rattle.ifmap_lexer.specs.There.{SomeAssignment, SomeName}

pub returns-then-is_empty-clause-refused : goal.returns-then-is_empty-clause-refused
returns-then-is_empty-clause-refused c =
    no_white c.args.bytes.now c.split_white.result.0.now c.split_white.result.1.now c.split_white.ensures
    (none_by_length c.split_white.result.0.now (sym c.is_empty.ensures ∙ c.if-is_empty.true))

pub returns-in_err-name-clause-refused : goal.returns-in_err-name-clause-refused
returns-in_err-name-clause-refused c =
    let p = err_from_is_err_and c.from_residual.result c.from_residual.ensures.1 in
    rw (p.1, p.2) (refuses_by c.in_err-name.field-0.0 (SomeName c.split_white.result.1.now) (SomeAssignment c.args.bytes.now)
    (some_name c.args.bytes.now c.split_white.result.0.now c.split_white.result.1.now c.split_white.ensures) c.in_err-name.ensures.refused)

pub returns-in_default-clause-refused : goal.returns-in_default-clause-refused
returns-in_default-clause-refused c =
    no_value c.args.bytes.now c.split_white.result.0.now c.split_white.result.1.now c.split_white.ensures c.in_ok-name.name
    c.in_ok-name.after.now c.in_ok-name.ensures.found c.in_default.ensures.none

pub returns-in_err-value-clause-refused : goal.returns-in_err-value-clause-refused
returns-in_err-value-clause-refused c =
    let p = err_from_is_err_and c.from_residual-in_err-value.result c.from_residual-in_err-value.ensures.1 in
    rw (p.1, p.2) (refuses_by c.in_err-value.field-0.0 _ (SomeAssignment c.args.bytes.now)
    (some_value c.args.bytes.now c.split_white.result.0.now c.split_white.result.1.now c.split_white.ensures c.in_ok-name.name
    c.in_ok-name.after.now c.in_ok-name.ensures.found c.in-Some.written.now c.in-Some.rest.now c.in-Some.ensures.found)
    c.in_err-value.ensures.refused)

pub returns-clause-found : goal.returns-clause-found
returns-clause-found c =
    assignment_found c.args.bytes.now c.split_white.result.0.now c.split_white.result.1.now c.split_white.ensures c.in_ok-name.name
    c.in_ok-name.after.now c.in_ok-name.ensures.found c.in-Some.written.now c.in-Some.rest.now c.in-Some.ensures.found
    c.in_ok-value.value (some_by_length c.split_white.result.0.now (sym c.is_empty.ensures ∙ c.if-is_empty.false))
    c.in_ok-value.ensures.found

pub returns-clause-shorter : goal.returns-clause-shorter
returns-clause-shorter c =
    is_shorter c.args.bytes.now c.split_white.result.0.now c.split_white.result.1.now c.split_white.ensures c.in_ok-name.name
    c.in_ok-name.after.now c.in_ok-name.ensures.found c.in-Some.written.now c.in-Some.rest.now c.in-Some.ensures.found
