use Rattle.std.proofs.Common.{◌≡◌, ℕ, ◌<◌, ◌≤◌, Option, Some, drop}
use Rattle.std.specs.Prelude.{slice_get, IsSome}
use Rattle.indexmap.specs.IndexMap.{spare}
use Rattle.ifmap_region.specs.Marks.{row_of}
use Rattle.ifmap_region.specs.Ways.{OnlyRoom, missing_count}
use Rattle.ifmap_region.proofs.ways.make_room.Given as goal

abbrev pub invariant-loop-i : goal.invariant-loop-i
invariant-loop-i l = record {
  only : OnlyRoom l.patch.entries l.fn.rows.entries l.rows.entries;
  done : (j v : ℕ) (r : Option ℕ) → j < l.i → slice_get l.patch.entries j ≡ Some (v, r) → IsSome (row_of l.rows.entries v);
  spare : missing_count l.rows.entries (drop l.i l.patch.entries) ≤ spare l.rows;
}
