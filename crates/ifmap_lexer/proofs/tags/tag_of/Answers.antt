use Rattle.std.proofs.lemmas.Result.{err_from_is_err_and}
use Rattle.ifmap_lexer.proofs.AssignmentLaws.{tag_name, tag_assignments, tag_found}
use Rattle.ifmap_lexer.proofs.Basics.{refuses_by}
use Rattle.ifmap_lexer.proofs.tags.tag_of.Goals as goal
use Rattle.ifmap_lexer.specs.There.{SomeAssignments, SomeName, SomeTag}

pub returns-in_default-clause-refused : goal.returns-in_default-clause-refused
returns-in_default-clause-refused c = λ s. c.in_default.ensures.none _ s.2.bytes_are

pub returns-in_err-name-clause-refused : goal.returns-in_err-name-clause-refused
returns-in_err-name-clause-refused c =
    let p = err_from_is_err_and c.from_residual.result c.from_residual.ensures.1 in
    rw (p.1, p.2) (refuses_by c.in_err-name.field-0.0 (SomeName c.in-Some.inner.now) (SomeTag c.args.bytes.now)
    (tag_name c.args.bytes.now c.in-Some.inner.now c.in-Some.ensures.found) c.in_err-name.ensures.refused)

pub returns-in_err-assignments-clause-refused : goal.returns-in_err-assignments-clause-refused
returns-in_err-assignments-clause-refused c =
    let p = err_from_is_err_and c.from_residual-in_err-assignments.result c.from_residual-in_err-assignments.ensures.1 in
    rw (p.1, p.2) (refuses_by c.in_err-assignments.field-0.0 (SomeAssignments c.in_ok-name.after.now) (SomeTag c.args.bytes.now)
    (tag_assignments c.args.bytes.now c.in-Some.inner.now c.in-Some.ensures.found c.in_ok-name.name c.in_ok-name.after.now
    c.in_ok-name.ensures.found) c.in_err-assignments.ensures.refused)

pub returns-clause-found : goal.returns-clause-found
returns-clause-found c =
    tag_found c.args.bytes.now c.in-Some.inner.now c.in-Some.ensures.found c.in_ok-name.name c.in_ok-name.after.now
    c.in_ok-name.ensures.found c.in_ok-assignments.assignments c.in_ok-assignments.end.now c.in_ok-assignments.ensures.found
