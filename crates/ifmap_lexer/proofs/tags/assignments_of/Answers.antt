use Rattle.std.proofs.lemmas.Result.{err_from_is_err_and}
use Rattle.ifmap_lemmas.specs.Branches.{fails_where_false}
use Rattle.ifmap_lexer.proofs.AssignmentLaws.{goes_on_start, goes_on_next, goes_on_end, some_first}
use Rattle.ifmap_lexer.proofs.Basics.{refuses_by}
use Rattle.ifmap_lexer.proofs.tags.assignments_of.Goals as goal
use Rattle.ifmap_lexer.specs.There.{SomeAssignment, SomeAssignments}

pub all-init : goal.all-init
all-init c = goes_on_start c.args.bytes.now _ c.new-made.ensures.items

pub all-preserved : goal.all-preserved
all-preserved c =
    goes_on_next c.all.rest.now (fails_where_false _ _ c.is_at_end.ensures c.all-test.true)
    c.args.bytes.now c.all.made.items c.push.new.self.items
    c.in_ok-assignment.assignment c.in_ok-assignment.after.now
    c.all.invariant c.in_ok-assignment.ensures.found c.in_ok-push.ensures.items

pub returns-in_err-assignment-clause-refused : goal.returns-in_err-assignment-clause-refused
returns-in_err-assignment-clause-refused c =
    let p = err_from_is_err_and c.from_residual.result c.from_residual.ensures.1 in
    let f = λ (s : SomeAssignments c.args.bytes.now). some_first c.all.rest.now (fails_where_false _ _ c.is_at_end.ensures c.all-test.true)
    (c.all.invariant.ahead s) in
    rw (p.1, p.2) (refuses_by c.in_err-assignment.field-0.0 (SomeAssignment c.all.rest.now) (SomeAssignments c.args.bytes.now) f
    c.in_err-assignment.ensures.refused)

pub returns-clause-found : goal.returns-clause-found
returns-clause-found c =
    goes_on_end c.args.bytes.now c.all.made.items c.all.rest.now c.split_white.result.0.now c.split_white.result.1.now c.all.invariant
    (c.is_at_end.ensures.0 c.all-test.false) c.split_white.ensures
