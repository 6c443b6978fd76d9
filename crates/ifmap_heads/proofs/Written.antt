-- What written heads are made of: fields, visible texts and numbers, each read back as it was written.
use Rattle.std.proofs.Common.{◌≡◌, ℕ, ◌+◌, ◌%◌, ◌^◌, ◌<◌, ◌≤◌, Bool, true, false, List, [], ◌∷◌, length, map, reverse, refl, Some, arith}
use Rattle.std.specs.Prelude.{◌&&◌, ◌==◌, nat_le, nat_lt, All}
use Rattle.std.specs.Char.{is_ascii_digit, is_ascii_graphic}
use Rattle.std.specs.Fmt.{decimal}
use Rattle.std.specs.List.{list_all}
use Rattle.std.specs.Str.Parse.{digits_value}
use Rattle.std.proofs.lemmas.Bool.{and_parts, and_from}
use Rattle.std.proofs.lemmas.Bool.Decides.{nat_tests}
use Rattle.std.proofs.lemmas.Fmt.{decimal_by_steps, decimal_is_IsNumeral, length-decimal-le, decimal_nonempty}
use Rattle.std.proofs.lemmas.List.Elements.{All-cons}
use Rattle.std.proofs.lemmas.List.Folds.{list_all-append}
use Rattle.std.proofs.lemmas.List.Sums.{AllPass-from_list_all, list_all-from_AllPass}
use Rattle.ifmap_lemmas.specs.Runs.{tests_weaker}
use Rattle.httparse.specs.Ascii.{space}
use Rattle.httparse.specs.Grammar.{Field, IsField, IsToken, crlf, field_value, is_ows, is_token, is_token_byte, is_value_byte, skip_ows}
use Rattle.httparse.specs.Spans.{name_and_value}
use Rattle.httparse.proofs.TrimLemmas.{AllPass-reverse, trim_ows_space}
use Rattle.ifmap_heads.specs.Fields.{Fields, common_length, is_length}

-- a field as it is written
abbrev written_field : List ℕ → List ℕ → Field
written_field name value = record { name = name; raw = space ∷ value; end = crlf }

pub digit_is_visible : (b : ℕ) → is_ascii_digit b ≡ true → is_ascii_graphic b ≡ true
digit_is_visible b is = grind (arith, nat_tests)

value_byte : (b : ℕ) → is_ascii_graphic b ≡ true → is_value_byte b ≡ true
value_byte b is = grind (arith, nat_tests)

no_space : (b : ℕ) → is_ascii_graphic b ≡ true → is_ows b ≡ false
no_space b is = grind (arith, nat_tests)

skips_none : (v : List ℕ) → list_all is_ascii_graphic v ≡ true → skip_ows v ≡ v
skips_none [] is = refl
skips_none (b ∷ v) is = rw (no_space b (and_parts (is_ascii_graphic b) (list_all is_ascii_graphic v) is).0) refl

graphic_reversed : (v : List ℕ) → list_all is_ascii_graphic v ≡ true → list_all is_ascii_graphic (reverse v) ≡ true
graphic_reversed v is = list_all-from_AllPass is_ascii_graphic (reverse v)
    (AllPass-reverse is_ascii_graphic v (AllPass-from_list_all is_ascii_graphic v is))

-- a visible value is read as it was written
value_stays : (name v : List ℕ) → list_all is_ascii_graphic v ≡ true → field_value (written_field name v) ≡ v
value_stays name v is = trim_ows_space v (skips_none v is) (skips_none (reverse v) (graphic_reversed v is))

-- a name that is a token, by its test
pub token_is : (name : List ℕ) → is_token name ≡ true → IsToken name
token_is name is =
    let parts = and_parts (nat_lt 0 (length name)) (list_all is_token_byte name) is in
    (grind (arith, nat_tests, parts.0), AllPass-from_list_all is_token_byte name parts.1)

-- a written field is one of the grammar
field_is : (name v : List ℕ) → is_token name ≡ true → list_all is_ascii_graphic v ≡ true → IsField (written_field name v)
field_is name v token is = record {
  name = token_is name token;
  raw = AllPass-from_list_all is_value_byte (space ∷ v) (tests_weaker is_ascii_graphic is_value_byte value_byte v is);
}

fields_none : All IsField []
fields_none k d within = absurd (omega arith)

-- a name and a visible value make a field
abbrev pub is_fit : List ℕ × List ℕ → Bool
is_fit pair = is_token pair.0 && list_all is_ascii_graphic pair.1

-- fields by their names and values
abbrev pub fields_of : Fields → List Field
fields_of pairs = map (λ (pair : List ℕ × List ℕ). written_field pair.0 pair.1) pairs

pub fields_are : (pairs : Fields) → list_all is_fit pairs ≡ true → All IsField (fields_of pairs)
fields_are [] is = fields_none
fields_are ((name, value) ∷ pairs) is =
    let parts = and_parts (is_fit (name, value)) (list_all is_fit pairs) is in
    let both = and_parts (is_token name) (list_all is_ascii_graphic value) parts.0 in
    All-cons IsField _ _ (field_is name value both.0 both.1) (fields_are pairs parts.1)

pub values_stay : (pairs : Fields) → list_all is_fit pairs ≡ true → map name_and_value (fields_of pairs) ≡ pairs
values_stay [] is = refl
values_stay ((name, value) ∷ pairs) is =
    let parts = and_parts (is_fit (name, value)) (list_all is_fit pairs) is in
    let both = and_parts (is_token name) (list_all is_ascii_graphic value) parts.0 in
    rw (value_stays name value both.1, values_stay pairs parts.1) refl

digit_of_number : (n : ℕ) → n < 10 → is_ascii_digit (48 + n) ≡ true
digit_of_number n low = grind (arith, nat_tests)

pub digits_are : (n : ℕ) → n < 2 ^ 64 → list_all is_ascii_digit (decimal n) ≡ true
digits_are = decimal_by_steps (λ n ds. list_all is_ascii_digit ds ≡ true)
    (λ n low. rw (digit_of_number n low) refl)
    (λ n ds many is. rw list_all-append (rw (is, digit_of_number (n % 10) (omega arith)) refl))

-- the length of a written body is a number of at most nine digits
pub number_is_length : (n : ℕ) → n < 10 ^ 9 → is_length (decimal n) ≡ true
number_is_length n few =
    let some : 0 < length (decimal n) = decimal_nonempty n (omega arith) in
    let short : length (decimal n) ≤ 9 = length-decimal-le 9 n (omega arith) few (omega arith) in
    and_from (nat_le 1 (length (decimal n)) && nat_le (length (decimal n)) 18) (list_all is_ascii_digit (decimal n))
    (and_from (nat_le 1 (length (decimal n))) (nat_le (length (decimal n)) 18) (grind (arith, nat_tests)) (grind (arith, nat_tests)))
    (digits_are n (omega arith))

-- the one length that is written is the one that is told
pub length_told : (n : ℕ) → n < 10 ^ 9 → common_length (decimal n ∷ []) ≡ Some n
length_told n few =
    let value : digits_value 10 (decimal n) ≡ n = (decimal_is_IsNumeral n (omega arith)).1 in
    let same : (n == n) ≡ true = grind (arith, nat_tests) in
    rw value (rw (number_is_length n few, same) refl)
