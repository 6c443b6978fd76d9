use Rattle.std.proofs.Common.{◌≡◌, ◌≢◌, ℕ, ◌<◌, Option, Some}
use Rattle.std.specs.Prelude.{slice_get}
use Rattle.ifmap_region.specs.Marks.{mark_of, row_of}
use Rattle.ifmap_region.proofs.patch.changed_rows.Given as goal

abbrev pub invariant-loop-i : goal.invariant-loop-i
invariant-loop-i l = record {
  only : (v : ℕ) (r : Option ℕ) → row_of l.changed.entries v ≡ Some r → (row_of l.rows.entries v ≡ Some r) × (r ≢ mark_of l.base.entries
      v);
  each : (j v : ℕ) (r : Option ℕ) → j < l.i → slice_get l.rows.entries j ≡ Some (v, r) → row_of l.rows.entries v ≡ Some r
      → r ≢ mark_of l.base.entries v → row_of l.changed.entries v ≡ Some r;
}
