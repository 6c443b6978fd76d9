use Rattle.ifmap_core.proofs.Begun.{full_where_counted, full_where_taken}
use Rattle.ifmap_core.proofs.beginning.is_full.Goals as goal

pub returns-then-is_taken-clause-full : goal.returns-then-is_taken-clause-full
returns-then-is_taken-clause-full c = λ parts pending e.
    full_where_taken c.args.asking.now c.args.sessions.now parts pending e c.is_taken.result c.is_taken.ensures c.if-is_taken.true

pub returns-else-is_taken-clause-full : goal.returns-else-is_taken-clause-full
returns-else-is_taken-clause-full c = λ parts pending e.
    full_where_counted c.args.asking.now c.args.sessions.now parts pending e c.is_taken.result c.is_taken.ensures
    c.counts-live.result.1 c.counts-live.ensures.counter c.if-is_taken.false
