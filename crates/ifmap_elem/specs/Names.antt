-- Names: XML 1.0 (fifth edition), section 2.3, without the colon, and Namespaces in XML 1.0, sections 3 and 4.
use Rattle.std.specs.Prelude.{◌≡◌, ℕ, Bool, true, ◌==◌, ◌||◌, ◌⊎◌, List, [], ◌∷◌, ◌++◌, encode_utf8_all}
use Rattle.std.specs.Int.{is_in_range}
use Rattle.std.specs.Str.{byte}
use Rattle.ifmap_elem.specs.declared.tokens.Qualified.{Qualified}
use Rattle.ifmap_elem.specs.Chars.{AllAre, colon}

-- a capital letter, a small letter and a digit of ASCII
abbrev pub is_capital : ℕ → Bool
is_capital c = is_in_range (byte "A") (byte "Z") c

abbrev pub is_small : ℕ → Bool
is_small c = is_in_range (byte "a") (byte "z") c

abbrev pub is_decimal : ℕ → Bool
is_decimal c = is_in_range (byte "0") (byte "9") c

-- a character that may begin a name part
abbrev pub is_name_start : ℕ → Bool
is_name_start c =
    is_capital c || c == byte "_" || is_small c || is_in_range 0xC0 0xD6 c || is_in_range 0xD8 0xF6 c || is_in_range 0xF8 0x2FF c
    || is_in_range 0x370 0x37D c || is_in_range 0x37F 0x1FFF c || is_in_range 0x200C 0x200D c || is_in_range 0x2070 0x218F c ||
    is_in_range 0x2C00 0x2FEF c
    || is_in_range 0x3001 0xD7FF c || is_in_range 0xF900 0xFDCF c || is_in_range 0xFDF0 0xFFFD c || is_in_range 0x1_0000 0xE_FFFF c

-- the middle dot, U+00B7
abbrev pub middle_dot : ℕ
middle_dot = 0xB7

-- a character that may stand in a name part: one that may begin it, `-`, `.`, a digit, or one of the further characters
abbrev pub is_name_character : ℕ → Bool
is_name_character c =
    is_name_start c || c == byte "-" || c == byte "." || is_decimal c || c == middle_dot || is_in_range 0x300 0x36F c
    || is_in_range 0x203F 0x2040 c

-- the bytes are a name part: a name without a colon
pub record IsNamePart (bytes : List ℕ) : Type 0 where
  pub first : ℕ
  pub others : List ℕ
  pub bytes_are : encode_utf8_all (first ∷ others) ≡ bytes
  pub begins : is_name_start first ≡ true
  pub goes_on : AllAre is_name_character others

-- the bytes of a qualified name: the prefix and a colon, where there is a prefix, and the local part
abbrev pub with_prefix : List ℕ → List ℕ → List ℕ
with_prefix [] local = local
with_prefix (b ∷ bs) local = (b ∷ bs) ++ (colon ∷ local)

abbrev pub name_bytes : Qualified → List ℕ
name_bytes q = with_prefix q.prefix q.local

-- its parts are name parts
pub record IsQualified (q : Qualified) : Type 0 where
  pub prefix_is : (q.prefix ≡ []) ⊎ IsNamePart q.prefix
  pub local_is : IsNamePart q.local
