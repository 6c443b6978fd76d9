-- The words of a header's line. No public clause cites this file.
use Rattle.std.specs.Prelude.{◌≡◌, ◌≢◌, ℕ, ◌<◌, List, ◌∷◌, ◌++◌, length, slice_index}
use Rattle.ifmap_elem.specs.Chars.{space_character}
use Rattle.ifmap_server.specs.Characters.{at_sign}

-- `@` and four words, with single spaces between them
abbrev pub words_line : (moment client random size : List ℕ) → List ℕ
words_line moment client random size = at_sign ∷ moment ++ space_character ∷ client ++ space_character ∷ random ++ space_character ∷ size

-- no byte is a space
abbrev pub HasNoSpace : List ℕ → Type 0
HasNoSpace text = (i : ℕ) → i < length text → slice_index text i ≢ space_character

-- the line is a header's with these words
pub record AreWords (line m c r s : List ℕ) : Type 0 where
  pub text : line ≡ words_line m c r s
  pub moment : HasNoSpace m
  pub client : HasNoSpace c
  pub random : HasNoSpace r
