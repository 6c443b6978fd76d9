use Rattle.std.proofs.Common.{ap, length, arith}
use Rattle.ifmap_subscribes.specs.ifmap_changes.Between.{Asking}
use Rattle.ifmap_core.proofs.Ended.{left_length}
use Rattle.ifmap_core.proofs.beginning.count_left.Goals as goal

pub overflow_sub-result : goal.overflow_sub-result
overflow_sub-result c =
    let all = left_length c.args.asking.now.ended c.args.sessions.now.live c.is_table.ensures.rising c.requires in
    let same = ap (λ (a : Asking). length a.ended) c.asking.view_is in
    omega (arith, all, same, c.counts-live.ensures.live)

pub returns : goal.returns
returns c =
    let all = left_length c.args.asking.now.ended c.args.sessions.now.live c.is_table.ensures.rising c.requires in
    let same = ap (λ (a : Asking). length a.ended) c.asking.view_is in
    omega (arith, all, same, c.counts-live.ensures.live)
