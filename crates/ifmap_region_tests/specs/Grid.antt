-- The links of a grid of a hundred by a hundred, for the tests: 128 times the row, and the column.
use Rattle.std.specs.Prelude.{ℕ, zero, suc, ◌+◌, ◌-◌, ◌/◌, ◌%◌, Bool, true, false, nat_lt, ◌==◌, ◌&&◌, ◌||◌, Option, Some, None, if◌then◌else◌}

-- the neighbour at a place: right, left, below, above
abbrev pub beside : ℕ → ℕ → Option ℕ
beside v zero = if nat_lt (v % 128) 99 then Some (v + 1) else None
beside v (suc zero) = if nat_lt 0 (v % 128) && nat_lt (v % 128) 100 then Some (v - 1) else None
beside v (suc (suc zero)) = if nat_lt (v / 128) 99 then Some (v + 128) else None
beside v (suc (suc (suc i))) = if nat_lt 127 v && nat_lt v 12800 then Some (v - 128) else None

-- the first link of the corner: between 0 and 1
abbrev pub is_corner : ℕ → ℕ → Bool
is_corner v w = ((v == 0) && (w == 1)) || ((v == 1) && (w == 0))

-- the neighbour, where the link is not the one that is cut
abbrev pub unless_cut : Bool → ℕ → Option ℕ → Option ℕ
unless_cut cut v None = None
unless_cut cut v (Some w) = if cut && is_corner v w then None else Some w

abbrev pub grid_link : Bool → ℕ → ℕ → Option ℕ
grid_link cut v i = unless_cut cut v (beside v i)
