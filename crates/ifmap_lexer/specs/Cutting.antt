-- Where runs of bytes and words end.
use Rattle.std.specs.Prelude.{◌≡◌, ℕ, Bool, not, ◌==◌, List, ◌∷◌, ◌++◌, ◌-◌, length, take}
use Rattle.ifmap_elem.specs.Chars.{AllAre}
use Rattle.ifmap_elem.specs.Tokens.{Lacks}
use Rattle.ifmap_lemmas.specs.Cuts.{Stops}

-- the bytes at the front that pass a test, and what is left, which begins with none that passes
pub record Cuts (p : ℕ → Bool) (bytes front rest : List ℕ) : Type 0 where
  pub bytes_are : bytes ≡ front ++ rest
  pub passes : AllAre p front
  pub stops : Stops p rest

-- any byte but this one
abbrev pub is_but : ℕ → ℕ → Bool
is_but byte b = not (b == byte)

-- the bytes up to the first such byte, and those after it
pub record CutsAt (byte : ℕ) (bytes front after : List ℕ) : Type 0 where
  pub bytes_are : bytes ≡ front ++ (byte ∷ after)
  pub passes : AllAre (is_but byte) front

-- the bytes up to the first place of a word, and those after it
pub record CutsWord (word bytes front after : List ℕ) : Type 0 where
  pub bytes_are : bytes ≡ front ++ (word ++ after)
  pub lacks : Lacks word (front ++ take (length word - 1) word)
  pub front_lacks : Lacks word front
