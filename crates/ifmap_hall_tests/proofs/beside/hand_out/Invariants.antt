use Rattle.std.proofs.Common.{◌≤◌, All}
use Rattle.ifmap_hall.specs.Passes.{IsOf, view_of}
use Rattle.ifmap_hall_tests.proofs.beside.hand_out.Given as goal

abbrev pub invariant-loop-after : goal.invariant-loop-after
invariant-loop-after l =
    IsOf l.hall l.pass × (600 ≤ (view_of l.pass).terms.heaviest)
    × All (λ s. IsOf l.hall s.pass × (600 ≤ (view_of s.pass).terms.heaviest)) l.stands.items
