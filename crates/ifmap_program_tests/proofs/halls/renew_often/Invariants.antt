use Rattle.std.proofs.Common.{◌≡◌}
use Rattle.ifmap_hall.specs.Passes.{IsOf, view_of}
use Rattle.ifmap_program_tests.proofs.halls.renew_often.Given as goal

abbrev pub invariant-loop : goal.invariant-loop
invariant-loop g l = IsOf l.hall l.pass × ((view_of l.pass).terms ≡ (view_of l.fn.pass).terms)
