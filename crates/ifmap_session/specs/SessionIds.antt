-- The ids of sessions, as newSession tells them (IF-MAP binding for SOAP 2.2, sessions).
use Rattle.std.specs.Prelude.{◌≡◌, ℕ, List, ◌∷◌, ◌++◌}
use Rattle.std.specs.Int.{to_be_bytes, w128}
use Rattle.std.specs.Fmt.{decimal}
use Rattle.std.specs.Str.{byte}
use Rattle.uuid.specs.Text.{hyphenated_text, lower}

-- what stands after the serial
abbrev pub hyphen : ℕ
hyphen = byte "-"

-- the serial in decimal, a hyphen, and the random word as the text of a UUID in lower case (RFC 9562, section 4)
abbrev pub session_id : ℕ → ℕ → List ℕ
session_id serial random = decimal serial ++ hyphen ∷ hyphenated_text lower (to_be_bytes w128 random)

-- the serial in decimal and a hyphen stand first, as in each id
abbrev pub BeginsWithSerial : ℕ → List ℕ → Type 0
BeginsWithSerial serial id = (rest : List ℕ) × (id ≡ decimal serial ++ hyphen ∷ rest)
