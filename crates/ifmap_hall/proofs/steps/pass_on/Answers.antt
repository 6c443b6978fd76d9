use Rattle.std.proofs.Common.{arith, ap}
use mathlib.Core.Option.{none}
use Rattle.atomic_table.specs.Table.{step}
use Rattle.ifmap_hall.specs.SeatViews.{holds_book}
use Rattle.ifmap_hall.proofs.Passing.{passes}
use Rattle.ifmap_hall.proofs.steps.pass_on.Goals as goal

pub fetch_add-requires : goal.fetch_add-requires
fetch_add-requires g c =
    let t = c.args.table.now in
    let s = c.args.seat.now in
    let b = c.requires.book in (
      c.requires.own,
      omega (arith, c.requires.words),
      rw b.1 (passes g.M.Machine.next g.M.Machine.weight_of g.M.Machine.reply t.key t.table_id.slots s.id s.me.0 b.0
          (step t.table_id.slots 0 1 0 none)
          c.requires.holds.part (ap holds_book c.requires.holds.holds) b.2),
    )
