-- Marks: the rows of a map from numbers to depths, where a row may stand without a mark.
use Rattle.std.specs.Prelude.{◌≡◌, ℕ, Option, Some, None, List, nat_eq, unwrap_or, IsSome, ◌⊎◌}
use Rattle.std.specs.Map.{lookup, update}
use Rattle.ifmap_region.specs.declared.patch.PatchedMark.{PatchedMark}
use Rattle.ifmap_region.specs.declared.patch.PatchedMark.TheVariants.{Untouched, Cleared, Marked}

-- the row of a number: none, or one that holds a mark or holds none
abbrev pub row_of : List (ℕ × Option ℕ) → ℕ → Option (Option ℕ)
row_of rows v = lookup (nat_eq v) rows

-- the row that a patch has for a number of which it says this: none where it says nothing
abbrev pub row_told : PatchedMark → Option (Option ℕ)
row_told Untouched = None
row_told Cleared = Some None
row_told (Marked mark) = Some (Some mark)

-- the mark of a number, where its row holds one
abbrev pub mark_of : List (ℕ × Option ℕ) → ℕ → Option ℕ
mark_of rows v = unwrap_or (row_of rows v) None

-- one of two numbers has a mark, or both have
abbrev pub HasMarkedEnd : List (ℕ × Option ℕ) → ℕ → ℕ → Type 0
HasMarkedEnd rows v w = IsSome (mark_of rows v) ⊎ IsSome (mark_of rows w)

-- the marks of `rows` where they have a row, and those below elsewhere
abbrev pub mark_over : List (ℕ × Option ℕ) → (ℕ → Option ℕ) → ℕ → Option ℕ
mark_over rows below v = unwrap_or (row_of rows v) (below v)

-- no row stands without a mark
abbrev pub AllMarked : List (ℕ × Option ℕ) → Type 0
AllMarked rows = (v : ℕ) → row_of rows v ≡ Some None → ⊥

-- each row of the new ones that holds no mark stood like that before
abbrev pub AddsMarks : List (ℕ × Option ℕ) → List (ℕ × Option ℕ) → Type 0
AddsMarks old new = (v : ℕ) → row_of new v ≡ Some None → row_of old v ≡ Some None

-- a row is put in, in place of the one that the number has, if any; the other numbers keep theirs
abbrev pub HasPut : List (ℕ × Option ℕ) → List (ℕ × Option ℕ) → ℕ → Option ℕ → Type 0
HasPut old new v mark = (q : ℕ) → row_of new q ≡ update nat_eq (row_of old) v (Some mark) q
