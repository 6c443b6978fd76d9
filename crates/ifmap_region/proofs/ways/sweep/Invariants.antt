use Rattle.std.proofs.Common.{◌≡◌, ℕ, ◌<◌, ◌⊎◌, Option, Some, None}
use Rattle.std.specs.Prelude.{slice_get, IsSome}
use Rattle.ifmap_region.specs.Marks.{row_of}
use Rattle.ifmap_region.proofs.ways.sweep.Given as goal

abbrev pub invariant-loop-i : goal.invariant-loop-i
invariant-loop-i l = record {
  each : (v : ℕ) → (row_of l.rows.entries v ≡ row_of l.initial.rows.entries v) ⊎ ((row_of l.initial.rows.entries v ≡ Some None) × (row_of
      l.rows.entries v ≡ None) × IsSome (row_of l.patch.entries v));
  out : (j v : ℕ) (r : Option ℕ) → j < l.i → slice_get l.patch.entries j ≡ Some (v, r) → row_of l.initial.rows.entries v ≡ Some None
      → row_of l.rows.entries v ≡ None;
}
