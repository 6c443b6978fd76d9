use Rattle.std.proofs.Common.{◌≡◌, ℕ, ◌++◌, take, drop}
use Rattle.ifmap_region.specs.Marks.{row_of, mark_of}
use Rattle.ifmap_region.specs.Ways.{taken_from}
use Rattle.ifmap_region.proofs.Exchange.{first_row}
use Rattle.ifmap_region.proofs.ways.exchange.Given as goal

abbrev pub invariant-loop-i : goal.invariant-loop-i
invariant-loop-i l = record {
  rows : (v : ℕ) → row_of l.rows.entries v ≡ first_row (row_of (take l.i l.initial.patch.entries) v) (row_of l.initial.rows.entries v);
  patch : l.patch.entries ≡ taken_from (mark_of l.initial.rows.entries) (take l.i l.initial.patch.entries) ++ drop l.i
      l.initial.patch.entries;
}
