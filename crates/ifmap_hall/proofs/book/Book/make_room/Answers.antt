use Rattle.std.proofs.Common.{◌<◌, ◌+◌, arith}
use Rattle.ifmap_hall.proofs.Settling.{settles_on, had_to_go_on}
use Rattle.ifmap_hall.proofs.book.Book.make_room.Goals as goal

pub loop-self-preserved : goal.loop-self-preserved
loop-self-preserved g c =
    let next = g.M.Machine.next in
    let weight = g.M.Machine.weight_of in
    let b = c.args.self.now in
    let l = c.loop-self.self in
    let n = c.settle_oldest.new.self in
    let inv = c.loop-self.invariant in
    let s = c.settle_oldest.ensures in
    let full : l.limit < l.bytes + c.args.weight = omega arith in (
      settles_on next weight b l n inv.0 s.settles,
      had_to_go_on next weight b l n c.args.weight inv.0 inv.1 s.settles.carries.from (s.few c.args.weight full),
    )

pub returns-in_err-settle_oldest-clause-settles : goal.returns-in_err-settle_oldest-clause-settles
returns-in_err-settle_oldest-clause-settles g c =
    settles_on g.M.Machine.next g.M.Machine.weight_of c.args.self.now c.loop-self.self c.settle_oldest.new.self c.loop-self.invariant.0
    c.settle_oldest.ensures.settles

pub returns-in_err-settle_oldest-clause-few : goal.returns-in_err-settle_oldest-clause-few
returns-in_err-settle_oldest-clause-few g c =
    let l = c.loop-self.self in
    let inv = c.loop-self.invariant in
    let s = c.settle_oldest.ensures in
    let full : l.limit < l.bytes + c.args.weight = omega arith in
    had_to_go_on g.M.Machine.next g.M.Machine.weight_of c.args.self.now l c.settle_oldest.new.self c.args.weight inv.0 inv.1
    s.settles.carries.from (s.few c.args.weight full)
