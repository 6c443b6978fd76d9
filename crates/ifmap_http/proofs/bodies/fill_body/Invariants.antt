use Rattle.std.proofs.Common.{◌≡◌, ℕ, ◌≤◌, ◌-◌, List, ◌++◌, take, vec_len}
use Rattle.std.specs.Io.KnownBytes.{Consumes}
use Rattle.ifmap_input.specs.Inputs.{UsesOneSide}
use Rattle.ifmap_http.proofs.bodies.fill_body.Given as goal

abbrev pub invariant-body : goal.invariant-body
invariant-body g l = record {
  within : l.filled ≤ vec_len l.body;
  short : vec_len l.body ≤ l.size;
  got : (got : List ℕ) × Consumes (g.S.Source.left l.initial.source) (g.S.Source.left l.source) got
      × (take l.filled l.body.items ≡ l.initial.body.items ++ got);
  side : UsesOneSide g.S.Source.left g.S.Source.faults g.S.Source.outgoing l.initial.source l.source;
}

abbrev pub decreases-body : goal.decreases-body
decreases-body g l = l.size - l.filled
