use Rattle.std.proofs.Common.{◌≡◌}
use Rattle.ifmap_hall.specs.Passes.{IsOf, view_of}
use Rattle.ifmap_hall_tests.proofs.runs.are_as_listed.Given as goal

abbrev pub invariant-loop-row : goal.invariant-loop-row
invariant-loop-row g l =
    IsOf l.hall l.first × IsOf l.hall l.second
    × ((view_of l.first).terms ≡ (view_of l.fn.first).terms) × ((view_of l.second).terms ≡ (view_of l.fn.second).terms)
