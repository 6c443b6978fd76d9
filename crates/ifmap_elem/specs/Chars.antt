-- Characters, over the bytes of their UTF-8: XML 1.0 (fifth edition), section 2.2, and white space, section 2.3.
use Rattle.std.specs.Prelude.{◌≡◌, ℕ, Bool, true, ◌==◌, ◌||◌, List, encode_utf8_all}
use Rattle.std.specs.Int.{is_in_range}
use Rattle.std.specs.List.{AllByRecursion}
use Rattle.std.specs.Str.{byte}

-- characters that have a name here
abbrev pub tab : ℕ
tab = 0x9

abbrev pub line_feed : ℕ
line_feed = 0xA

abbrev pub carriage_return : ℕ
carriage_return = 0xD

abbrev pub space_character : ℕ
space_character = byte " "

abbrev pub ampersand : ℕ
ampersand = byte "&"

abbrev pub semicolon : ℕ
semicolon = byte ";"

abbrev pub colon : ℕ
colon = byte ":"

abbrev pub less_than : ℕ
less_than = byte "<"

abbrev pub greater_than : ℕ
greater_than = byte ">"

abbrev pub equals_sign : ℕ
equals_sign = byte "="

abbrev pub double_quote : ℕ
double_quote = byte "\""

abbrev pub single_quote : ℕ
single_quote = byte "'"

-- each number of the list passes the test
abbrev pub AllAre : (ℕ → Bool) → List ℕ → Type 0
AllAre p ns = AllByRecursion (λ n. p n ≡ true) ns

-- a character that a document can have, by its code
abbrev pub is_character : ℕ → Bool
is_character c =
    c == tab || c == line_feed || c == carriage_return || is_in_range space_character 0xD7FF c || is_in_range 0xE000 0xFFFD c
    || is_in_range 0x1_0000 0x10_FFFF c

-- the bytes are such characters, in UTF-8
abbrev pub IsCharacters : List ℕ → Type 0
IsCharacters bytes = (characters : List ℕ) × (encode_utf8_all characters ≡ bytes) × AllAre is_character characters

-- white space
abbrev pub is_white : ℕ → Bool
is_white b = b == space_character || b == tab || b == carriage_return || b == line_feed

-- the bytes are white space alone, or there are none
abbrev pub IsWhite : List ℕ → Type 0
IsWhite bytes = AllAre is_white bytes
