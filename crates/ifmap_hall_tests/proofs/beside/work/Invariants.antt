use Rattle.std.proofs.Common.{◌≡◌}
use Rattle.ifmap_hall.specs.Passes.{IsOf, view_of}
use Rattle.ifmap_hall_tests.proofs.beside.work.Given as goal

abbrev pub invariant-loop-round : goal.invariant-loop-round
invariant-loop-round g l = IsOf l.hall l.pass × ((view_of l.pass).terms ≡ (view_of l.fn.stand.pass).terms)
