use Rattle.std.proofs.Common.{◌++◌, sym, ap, ◌∙◌}
use Rattle.std.proofs.lemmas.List.{append-nil}
use Rattle.std.proofs.lemmas.Map.Iter.{rest_all}
use Rattle.ifmap_reader.proofs.ScopeLaws.{rows_once}
use Rattle.ifmap_reader.proofs.scoping.rows_of.Goals as goal

pub returns-clause-once : goal.returns-clause-once
returns-clause-once c =
    let rest = rest_all (λ x. x) c.loop-row.row-iterator c.next.new.self c.next.result c.in-None.is c.next.ensures.steps in
    rows_once c.loop-row.rows.items c.args.spaces.entries
    (sym (append-nil c.loop-row.rows.items) ∙ ap (λ xs. c.loop-row.rows.items ++ xs) (sym rest)
    ∙ c.loop-row.invariant) c.len.ensures.ordered
