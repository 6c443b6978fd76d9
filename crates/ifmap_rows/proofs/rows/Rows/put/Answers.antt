use Rattle.std.proofs.Common.{ap}
use Rattle.ifmap_plans.specs.Placing.{put}
use Rattle.ifmap_plans.specs.ifmap_view.Attachments.{stored_order}
use Rattle.ifmap_rows.proofs.Keeping.{exchange_keeps_index}
use Rattle.ifmap_rows.proofs.rows.Rows.put.Goals as goal

pub invariant_of-self-2 : goal.invariant_of-self-2
invariant_of-self-2 c =
    let replaced = c.exchange_row-replaced.ensures in
    let index = c.exchange_word_row.ensures in
    rw (
      replaced.rows,
      c.in_ok-reserve.ensures.items,
      c.in_ok-one.ensures,
    ) (exchange_keeps_index c.self.inside.by_bytes.items c.self.inside.by_word.items _ c.self.invariant c.args.row.now
    c.exchange_row-replaced.result (rw (c.in_ok-reserve.ensures.items, c.in_ok-one.ensures) at replaced.replaced)
    (rw (c.in_ok-reserve.ensures.items, c.in_ok-one.ensures) at replaced.none)
    (rw (c.in_ok-reserve-2.ensures.items, c.in_ok-other.ensures) at index.replaced)
    (rw (c.in_ok-reserve-2.ensures.items, c.in_ok-other.ensures) at index.none))

pub returns : goal.returns
returns c =
    rw (c.exchange_row-replaced.ensures.rows, c.in_ok-reserve.ensures.items, c.in_ok-one.ensures)
    (ap (put stored_order c.args.row.now) c.self.view_is)
