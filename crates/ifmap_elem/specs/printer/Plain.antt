-- Which bytes the printer may copy as they are.
use Rattle.std.specs.Prelude.{◌≡◌, ℕ, ◌<◌, ◌≤◌, false, List, [], ◌∷◌, ◌==◌, get_or}
use Rattle.std.specs.List.{flat_map}
use Rattle.ifmap_elem.specs.declared.escaping.TextPlace.{TextPlace}
use Rattle.ifmap_elem.specs.declared.escaping.TextPlace.TheVariants.{Content, Value}
use Rattle.ifmap_elem.specs.Escapes.{text_byte, value_byte}

-- a byte as it is written in its place
abbrev pub escape_byte : TextPlace → ℕ → List ℕ
escape_byte Content b = text_byte b
escape_byte Value b = value_byte b

-- bytes as they are written in their place
abbrev pub escape_bytes : TextPlace → List ℕ → List ℕ
escape_bytes place bytes = flat_map (escape_byte place) bytes

-- each byte from one place up to another stands for itself
abbrev pub ArePlain : TextPlace → List ℕ → ℕ → ℕ → Type 0
ArePlain place bytes from to = (k : ℕ) → from ≤ k → k < to → escape_byte place (get_or bytes k 0) ≡ get_or bytes k 0 ∷ []

-- a byte is none of those from one place up to another
abbrev pub LacksByte : List ℕ → ℕ → ℕ → ℕ → Type 0
LacksByte bytes from to byte = (k : ℕ) → from ≤ k → k < to → (get_or bytes k 0 == byte) ≡ false
