use Rattle.ifmap_lemmas.specs.Filters.{all_weaker}
use Rattle.ifmap_tellings.specs.ifmap_delta.SeenViews.{IsUpToDate}
use Rattle.ifmap_graph.specs.ifmap_pool.Holdings.{key_at}
use Rattle.ifmap_changes.specs.Between.{HasLiveMarks, seen_now}
use Rattle.ifmap_graph.specs.Seen.{links_now, rows_now}
use Rattle.ifmap_changes.proofs.laws.marked_numbers_are_live.Goals as goal

pub returns : goal.returns
returns c = λ parts seen are.
    let h = parts.graph
    in all_weaker (λ x. IsUpToDate (seen_now h) x.subscription) (λ x. HasLiveMarks h x.subscription)
    (λ x kept v d marked.
    let marks = kept.marks
    in (c.numbers_keep_walks.ensures (rows_now h) (key_at h.names) (links_now h) x.subscription.search x.subscription.region.start
    seen marks.here).identified d v ((marks.depths v d).0 marked).walk)
    parts.standing.items are.kept
