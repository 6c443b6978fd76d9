-- Values of addresses, and what the texts of addresses are made of.
use Rattle.std.specs.Prelude.{◌≡◌, ℕ, ◌<◌, ◌⊎◌, List, length}
use Rattle.std.specs.Int.{IsInRange}
use Rattle.std.specs.List.{AllByRecursion}
use Rattle.std.specs.Str.{byte}

-- so many numbers, each below a bound
pub record AreBelow (bound many : ℕ) (value : List ℕ) : Type 0 where
  pub number : length value ≡ many
  pub below : AllByRecursion (λ n. n < bound) value

-- a digit in lower case
abbrev pub IsDigit : ℕ → Type 0
IsDigit b = IsInRange (byte "0") (byte "9") b ⊎ IsInRange (byte "a") (byte "f") b

-- a digit, a dot or a colon
abbrev pub IsAddressByte : ℕ → Type 0
IsAddressByte b = IsDigit b ⊎ ((b ≡ byte ".") ⊎ (b ≡ byte ":"))
