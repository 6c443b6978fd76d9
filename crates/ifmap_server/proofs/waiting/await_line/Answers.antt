-- What was taken before a read is taken with what it took.
use Rattle.std.proofs.lemmas.Result.{err_from_is_err_and}
use Rattle.ifmap_server.proofs.Taking.{fails_after, takes_after, takes_fault, takes_ok}
use Rattle.ifmap_server.proofs.waiting.await_line.Goals as goal

pub returns-in_err-take_more-clause-takes : goal.returns-in_err-take_more-clause-takes
returns-in_err-take_more-clause-takes g c =
    let p = err_from_is_err_and c.from_residual.result c.from_residual.ensures.1 in
    let before = c.line.invariant in
    rw (p.1, p.2)
    (fails_after g.S.Source.left g.S.Source.faults (c.args.source.now, c.args.input.now) (c.line.source, c.line.input)
    (c.take_more.new.source, c.take_more.new.input) c.in_err-take_more.field-0.0 before.0 before.1 c.in_err-take_more.ensures.takes)

pub line-preserved : goal.line-preserved
line-preserved g c =
    let before = c.line.invariant in
    takes_after g.S.Source.left g.S.Source.faults (c.args.source.now, c.args.input.now) (c.line.source, c.line.input)
    (c.take_more.new.source, c.take_more.new.input) c.in_ok-take_more.field-0 before.0 before.1 c.in_ok-take_more.ensures.takes

pub returns-then-is_empty-clause-takes : goal.returns-then-is_empty-clause-takes
returns-then-is_empty-clause-takes g c =
    let before = c.line.invariant in
    let all = takes_after g.S.Source.left g.S.Source.faults (c.args.source.now, c.args.input.now) (c.line.source, c.line.input)
    (c.take_more.new.source, c.take_more.new.input) c.in_ok-take_more.field-0 before.0 before.1 c.in_ok-take_more.ensures.takes in
    takes_ok g.S.Source.left g.S.Source.faults (c.args.source.now, c.args.input.now) (c.take_more.new.source, c.take_more.new.input) _ all.0
    all.1

pub returns-else-is_empty-clause-takes : goal.returns-else-is_empty-clause-takes
returns-else-is_empty-clause-takes g c =
    let before = c.line.invariant in
    let all = takes_after g.S.Source.left g.S.Source.faults (c.args.source.now, c.args.input.now) (c.line.source, c.line.input)
    (c.take_more.new.source, c.take_more.new.input) c.in_ok-take_more.field-0 before.0 before.1 c.in_ok-take_more.ensures.takes in
    takes_fault g.S.Source.left g.S.Source.faults (c.args.source.now, c.args.input.now) (c.take_more.new.source, c.take_more.new.input)
    all.0 all.1
