-- What written text and written values mean: line ends, white space and references. XML 1.0 (fifth edition), sections
-- 2.11, 3.3.3, 4.1 and 4.6.
use Rattle.std.specs.Prelude.{◌≡◌, ◌≢◌, ℕ, Bool, false, not, ◌==◌, ◌&&◌, ◌||◌, if◌then◌else◌, List, [], ◌∷◌, ◌++◌, length, drop, map, codes, Option, Some, None, encode_utf8}
use Rattle.std.specs.Char.{is_digit}
use Rattle.std.specs.List.{flat_map, list_all, starts_with}
use Rattle.std.specs.Str.{bytes_eq}
use Rattle.std.specs.Str.Parse.{digits_value}
use Rattle.ifmap_lemmas.specs.Items.{To}
use Rattle.ifmap_elem.specs.Chars.{AllAre, ampersand, carriage_return, double_quote, greater_than, is_character, less_than, line_feed, semicolon, single_quote, space_character, tab}

-- whether the bytes begin with this one
abbrev pub begins_with : ℕ → List ℕ → Bool
begins_with b [] = false
begins_with b (c ∷ cs) = c == b

-- each line end as one line feed: a carriage return before a line feed goes, and any other is a line feed
abbrev pub line_ends : List ℕ → List ℕ
line_ends [] = []
line_ends (b ∷ bs) =
    if b == carriage_return then (if begins_with line_feed bs then line_ends bs else line_feed ∷ line_ends bs) else b ∷ line_ends bs

-- white space within a written attribute value is a space
abbrev pub as_space : ℕ → ℕ
as_space b = if b == tab || b == line_feed then space_character else b

-- the character with that number, where these digits are some and the number is a character's
abbrev pub code_point : ℕ → List ℕ → Option ℕ
code_point base digits =
    if not (length digits == 0) && list_all (λ d. is_digit d base) digits && is_character (digits_value base digits) then Some
    (digits_value base digits) else None

-- the character that `#` and decimal digits, or `#x` and hexadecimal digits, name
abbrev pub by_number : List ℕ → Option ℕ
by_number name =
    if starts_with ◌==◌ name (codes "#x") then code_point 16 (drop 2 name)
    else (if starts_with ◌==◌ name (codes "#") then code_point 10 (drop 1 name)
    else None)

-- the character that a reference stands for, by what is between its `&` and its `;`
abbrev pub reference_value : List ℕ → Option ℕ
reference_value name =
    if bytes_eq name (codes "amp") then Some ampersand
    else (if bytes_eq name (codes "lt") then Some less_than
    else (if bytes_eq name (codes "gt") then Some greater_than
    else (if bytes_eq name (codes "quot") then Some double_quote
    else (if bytes_eq name (codes "apos") then Some single_quote
    else by_number name))))

-- a run of bytes that are as they are, or a reference to a character
pub data ValuePart : Type 0 where
  Plain : List ℕ → ValuePart
  Reference : ℕ → ValuePart

-- a run goes on up to the next reference or the end
abbrev pub EndsRun : List ℕ → Type 0
EndsRun [] = Unit {0}
EndsRun (b ∷ bs) = b ≡ ampersand

-- a part stands at the front: a run without `&`, or `&`, what names a character, and `;`
abbrev pub TakesPart : List ℕ → ValuePart → List ℕ → Type 0
TakesPart bytes (Plain run) rest = (bytes ≡ run ++ rest) × (run ≢ []) × AllAre (λ b. not (b == ampersand)) run × EndsRun rest
TakesPart bytes (Reference c) rest =
    (name : List ℕ) × (bytes ≡ ampersand ∷ (name ++ (semicolon ∷ rest))) × AllAre (λ b. not (b == semicolon)) name
    × (reference_value name ≡ Some c)

-- what a part adds to a text: a run with its line ends as line feeds, or the character
abbrev pub text_part : ValuePart → List ℕ
text_part (Plain run) = line_ends run
text_part (Reference c) = encode_utf8 c

-- what a part adds to an attribute's value: a run with its white space as spaces, or the character
abbrev pub value_part : ValuePart → List ℕ
value_part (Plain run) = map as_space (line_ends run)
value_part (Reference c) = encode_utf8 c

-- the written bytes are parts, and what these add makes the text
pub record SpellsOut (adds : ValuePart → List ℕ) (written text : List ℕ) : Type 0 where
  pub parts : List ValuePart
  pub taken : To TakesPart written parts []
  pub text_is : text ≡ flat_map adds parts

-- written text means this text
abbrev pub IsText : List ℕ → List ℕ → Type 0
IsText written text = SpellsOut text_part written text

-- a written attribute value means this value
abbrev pub IsValue : List ℕ → List ℕ → Type 0
IsValue written value = SpellsOut value_part written value
