-- Bytes that need no closer look.
use Rattle.std.specs.Prelude.{ℕ, Bool, not, ◌==◌, ◌&&◌, ◌||◌, nat_lt}
use Rattle.ifmap_elem.specs.Chars.{ampersand, carriage_return, line_feed, space_character, tab}

-- the byte of a control character that a document can't have
abbrev pub is_refused_control : ℕ → Bool
is_refused_control b =
    nat_lt b space_character && not (b == tab) && not (b == line_feed) && not (b == carriage_return)

-- the first byte of U+FFFE and of U+FFFF in UTF-8, and of each character from U+F000 up to them
abbrev pub first_of_noncharacters : ℕ
first_of_noncharacters = 0xEF

-- no byte of a control character that a document can't have, and none that may begin U+FFFE or U+FFFF
abbrev pub is_common : ℕ → Bool
is_common b = not (is_refused_control b || b == first_of_noncharacters)

-- a byte that means itself wherever it is written: no part of a reference, and no white space but a space
abbrev pub is_verbatim : ℕ → Bool
is_verbatim b = not (nat_lt b space_character || b == ampersand)
