-- What was taken from a source and is not used yet.
use Rattle.std.specs.Prelude.{◌≡◌, ℕ, ◌≤◌, List, ◌++◌, Option, is_some}
use Rattle.std.specs.Io.KnownBytes.{Consumes}

-- what is pending grew by what was taken from the source
pub record TakesFromSource (left_old left_new : Option (List ℕ)) (old new : List ℕ) : Type 0 where
  pub got : List ℕ
  pub consumed : Consumes left_old left_new got
  pub grown : new ≡ old ++ got

-- one side of an object was used, with its bytes, its count of faults, and the other side: it tells its bytes where it told them, the
-- other side is as it was, and the count did not fall
pub record UsesOneSide {X Side : Type 0} (bytes : X → Option (List ℕ)) (faults : X → ℕ) (other : X → Side) (old new : X) : Type 0 where
  pub told : is_some (bytes new) ≡ is_some (bytes old)
  pub apart : other new ≡ other old
  pub later : faults old ≤ faults new
