-- Rows that stay.
use Rattle.std.specs.Prelude.{ℕ, List, Option, IsSome}
use Rattle.ifmap_region.specs.Marks.{row_of}

-- each number that had a row has one still
abbrev pub KeepsEachRow : List (ℕ × Option ℕ) → List (ℕ × Option ℕ) → Type 0
KeepsEachRow old new = (v : ℕ) → IsSome (row_of old v) → IsSome (row_of new v)
