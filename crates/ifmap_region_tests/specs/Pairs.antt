-- Links given by the pairs of their ends.
use Rattle.std.specs.Prelude.{ℕ, nat_eq, Option, Some, None, List, if◌then◌else◌, slice_get, option_and_then}

-- the other end of a link, where the number is one
abbrev pub far_end_of : ℕ × ℕ → ℕ → Option ℕ
far_end_of link v = if nat_eq link.0 v then Some link.1 else (if nat_eq link.1 v then Some link.0 else None)

-- the other end of the link at a place, where the number is one
abbrev pub far_end_at : List (ℕ × ℕ) → ℕ → ℕ → Option ℕ
far_end_at links v i = option_and_then (λ link. far_end_of link v) (slice_get links i)
