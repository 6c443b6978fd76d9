use Rattle.std.proofs.Common.{arith}
use Rattle.ifmap_hall.proofs.Cutting.{splits}
use Rattle.ifmap_hall.proofs.steps.cut.Goals as goal

pub split_seat-requires : goal.split_seat-requires
split_seat-requires g c =
    let s = c.args.seat.now in
    let r = c.requires.idle in (
      c.requires.own,
      omega (arith, c.requires.words),
      splits g.M.Machine.next g.M.Machine.weight_of c.args.table.now.key s.id s.me.0 r.1
          r.0.idle,
    )
