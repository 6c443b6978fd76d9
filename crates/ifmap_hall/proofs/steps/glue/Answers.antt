use Rattle.std.proofs.Common.{arith}
use Rattle.ifmap_hall.proofs.Gluing.{joins}
use Rattle.ifmap_hall.proofs.steps.glue.Goals as goal

pub join_seat-requires : goal.join_seat-requires
join_seat-requires g c =
    let s = c.args.seat.now in
    let o = c.args.other in
    let r = c.requires.idle.0 in
    let q = c.requires.idle.1 in (
      c.requires.own,
      c.requires.other,
      q.slots,
      omega (arith, c.requires.words),
      joins g.M.Machine.next g.M.Machine.weight_of g.M.Machine.some_state c.args.table.now.key s.id o.id s.me.0 o.me.0 r.part q.part
          r.idle q.idle,
    )
