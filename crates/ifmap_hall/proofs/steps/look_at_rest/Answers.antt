use Rattle.std.proofs.Common.{arith}
use mathlib.Core.Option.{none}
use Rattle.atomic_table.specs.Table.{step}
use Rattle.ifmap_hall.proofs.Drawing.{looks_at_rest}
use Rattle.ifmap_hall.proofs.steps.look_at_rest.Goals as goal

pub load-requires : goal.load-requires
load-requires g c =
    let t = c.args.table.now in
    let s = c.args.seat.now in
    let r = c.requires.idle in (
      c.requires.own,
      omega (arith, c.requires.words),
      rw r.slots (looks_at_rest g.M.Machine.next g.M.Machine.weight_of t.key t.table_id.slots s.id s.me.0
          (step t.table_id.slots 0 0 0 none) r.part),
    )
