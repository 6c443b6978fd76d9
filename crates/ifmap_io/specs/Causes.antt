-- What a fault of the outside shows: its object counts its faults.
use Rattle.std.specs.Prelude.{ℕ, ◌+◌, ◌-◌, ◌^◌, ◌≤◌, min, Result, OnErr}

-- a count after one more: it stands still at its type's end
abbrev pub count_after_one : ℕ → ℕ
count_after_one count = min (count + 1) (2 ^ 64 - 1)

-- the count has risen, or stands at its type's end
abbrev pub Rose : ℕ → ℕ → Type 0
Rose before now = count_after_one before ≤ now

-- the count never falls, and has risen where the call failed
pub record HasCause {T E : Type 0} (before now : ℕ) (result : Result T E) : Type 0 where
  pub later : before ≤ now
  pub failed : OnErr result (Rose before now)
