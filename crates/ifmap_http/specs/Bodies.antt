-- Taking a body. No public clause cites this file.
use Rattle.std.specs.Prelude.{◌≡◌, ℕ, ◌<◌, List, ◌++◌, length, Option}
use Rattle.std.specs.Io.KnownBytes.{Consumes, IsAtEnd}

-- a body was taken from the front of what was pending and then of what the source had
pub record TakesBody (left_old left_new : Option (List ℕ)) (old new body : List ℕ) : Type 0 where
  pub got : List ℕ
  pub consumed : Consumes left_old left_new got
  pub split : old ++ got ≡ body ++ new

-- the source ended before the body was whole
pub record LacksBody (left_old left_new : Option (List ℕ)) (old : List ℕ) (size : ℕ) : Type 0 where
  pub got : List ℕ
  pub consumed : Consumes left_old left_new got
  pub at_end : IsAtEnd left_new
  pub short : length (old ++ got) < size
