use Rattle.std.proofs.Common.{arith}
use mathlib.Core.Option.{none}
use Rattle.atomic_table.specs.Table.{step}
use Rattle.ifmap_hall.proofs.Drawing.{draws}
use Rattle.ifmap_hall.proofs.steps.draw.Goals as goal

pub fetch_add-requires : goal.fetch_add-requires
fetch_add-requires g c =
    let t = c.args.table.now in
    let s = c.args.seat.now in
    let r = c.requires.idle in (
      c.requires.own,
      omega (arith, c.requires.words),
      rw r.slots (draws g.M.Machine.next g.M.Machine.weight_of t.key t.table_id.slots s.id s.me.0
          (step t.table_id.slots 1 1 0 none) r.part r.idle),
    )
