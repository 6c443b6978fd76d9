use Rattle.ifmap_machine.proofs.Goods.{IsWholeGraph, graph_none, results_begin, results_fold}
use Rattle.ifmap_machine.proofs.Histories.{entries_agree}
use Rattle.ifmap_machine.proofs.laws.clients_fold_fresh_results_from_any_entry.Goals as goal

pub returns : goal.returns
returns c = λ ttl past entries legal fit.
    let published = c.publishing_keeps_graphs.ensures in
    let retracted = c.retracting_keeps_graphs.ensures in
    let ids = c.bytes_tell_identifiers_apart.ensures in
    let next = c.differences_make_the_next_result.ensures in
    entries_agree IsWholeGraph (record { graph = graph_none; whole = tt })
    (λ who rows g. record { graph = retracted.graph who rows g.graph; whole = retracted.whole who rows g.whole })
    (λ rows by ops name f g. record { graph = published.graph rows by ops f g.graph; whole = published.whole rows by ops name f g.whole })
    (λ before after s g k. results_fold ids next before after s g k) (λ rows s g. results_begin ids next rows s g)
    ttl past entries legal fit
