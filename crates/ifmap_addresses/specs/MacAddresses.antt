-- MAC addresses as texts: EUI-48 of IEEE Std 802, section 8.1, in hexadecimal, with colons.
use Rattle.std.specs.Prelude.{◌≡◌, ℕ, ◌<◌, ◌/◌, ◌%◌, List, [], ◌∷◌, length, map}
use Rattle.std.specs.Char.{digit_char}
use Rattle.std.specs.List.{AllByRecursion, join_with_byte}
use Rattle.std.specs.Str.{byte, str_to_ascii_lowercase}

-- a byte as two digits
abbrev pub hex_pair : ℕ → List ℕ
hex_pair b = digit_char (b / 16) ∷ (digit_char (b % 16) ∷ [])

-- the one text of a value: its bytes as two lower-case digits each, with a colon between each two
abbrev pub mac_address_text : List ℕ → List ℕ
mac_address_text value = join_with_byte (byte ":") (map hex_pair value)

-- the text is that of the six bytes, but for the case of its letters
pub record IsMacAddress (text value : List ℕ) : Type 0 where
  pub six : length value ≡ 6
  pub bytes : AllByRecursion (λ b. b < 256) value
  pub spelled : str_to_ascii_lowercase text ≡ mac_address_text value
