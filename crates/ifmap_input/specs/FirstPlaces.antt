-- Where a byte stands for the first time, as the newline does at which a line ends.
use Rattle.std.specs.Prelude.{◌≡◌, ◌≢◌, ℕ, ◌<◌, List, length, slice_index}

-- the byte is not among these
abbrev pub HasNone : ℕ → List ℕ → Type 0
HasNone byte bytes = (k : ℕ) → k < length bytes → slice_index bytes k ≢ byte

-- the first such byte stands at this place
pub record IsFirstPlace (byte : ℕ) (bytes : List ℕ) (place : ℕ) : Type 0 where
  pub within : place < length bytes
  pub there : slice_index bytes place ≡ byte
  pub first : (k : ℕ) → k < place → slice_index bytes k ≢ byte
