use Rattle.std.proofs.Common.{◌-◌, length}
use Rattle.ifmap_http.proofs.Awaiting.{HasTaken}
use Rattle.ifmap_http.proofs.heads.await_answer.Given as goal

abbrev pub invariant-head : goal.invariant-head
invariant-head g l =
    HasTaken g.S.Source.left g.S.Source.faults g.S.Source.outgoing l.initial.source l.source l.initial.input l.input

abbrev pub decreases-head : goal.decreases-head
decreases-head g l = 16385 - length l.input
