-- IPv6 addresses as texts: RFC 4291, section 2.2, the first two of its three forms.
use Rattle.std.specs.Prelude.{◌≡◌, ℕ, ◌/◌, ◌%◌, false, List, [], ◌∷◌, map, ◌==◌}
use Rattle.std.specs.Char.{digit_char}
use Rattle.std.specs.List.{join_with_byte, list_any}
use Rattle.std.specs.Net.Grammar.{IsColonHex}
use Rattle.std.specs.Net.Text.{hex}
use Rattle.std.specs.Str.{byte}

-- the text is eight groups of one to four hexadecimal digits joined by colons, or at most seven with one `::` for the groups that are
-- missing, which are zeros; without a dot, so the last two groups do not stand as an IPv4 address; the value is the eight numbers
abbrev pub IsIpV6 : List ℕ → List ℕ → Type 0
IsIpV6 text value = IsColonHex text value × (list_any (λ b. b == byte ".") text ≡ false)

-- the one text of a value: eight groups of lower-case digits without leading zeros, joined by colons
abbrev pub ip_v6_text : List ℕ → List ℕ
ip_v6_text value = join_with_byte (byte ":") (map hex value)

-- a group with its leading zeros
abbrev pub four_hex_digits : ℕ → List ℕ
four_hex_digits n = digit_char (n / 0x1000) ∷ digit_char (n / 0x100 % 16) ∷ digit_char (n / 0x10 % 16) ∷ digit_char (n % 16) ∷ []
