use Rattle.std.proofs.Common.{rules, ◌+◌, ap, ◌∙◌, sym}
use Rattle.ifmap_fresh.specs.Gathered.{row_size}
use Rattle.ifmap_fresh.proofs.Entries.{rows_more}
use Rattle.ifmap_fresh.proofs.finding.size_of.Goals as goal

pub loop-row-preserved : goal.loop-row-preserved
loop-row-preserved c =
    let filter = c.args.filter.now
    in let own = c.in_ok-own.own
    in let row = c.row-item.result
    in c.in_ok-size.ensures ∙ ap (λ n. n + row_size own filter row) c.loop-row.invariant
    ∙ sym (rows_more filter c.args.item.now own c.args.rows.now c.loop-row.row-index row c.in_ok-own.ensures (search rules) c.row-item.is)
