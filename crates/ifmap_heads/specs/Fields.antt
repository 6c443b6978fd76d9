-- What the fields of a head say: RFC 9110, sections 5, 7.6.1 and 8.6.
use Rattle.std.specs.Prelude.{ℕ, ◌==◌, ◌&&◌, nat_le, nat_lt, Bool, List, [], ◌∷◌, length, map, Option, Some, None, if◌then◌else◌}
use Rattle.std.specs.Char.{is_ascii_digit}
use Rattle.std.specs.List.{filter, list_all, list_any}
use Rattle.std.specs.Str.{str_eq_ignore_ascii_case}
use Rattle.std.specs.Str.Parse.{digits_value}
use Rattle.httparse.specs.Grammar.{trim_ows}
use Rattle.ifmap_lemmas.specs.Separated.{comma_parts}

-- the fields of a head: each one's name, and its value without the white space round it
abbrev pub Fields : Type 0
Fields = List (List ℕ × List ℕ)

-- a field has that name, in any ASCII case
abbrev pub is_field_named : List ℕ → List ℕ × List ℕ → Bool
is_field_named name field = str_eq_ignore_ascii_case field.0 name

-- the values of the fields of a name, in their order
abbrev pub values : List ℕ → Fields → List (List ℕ)
values name fields = map (λ field. field.1) (filter (is_field_named name) fields)

-- there is a field of that name
abbrev pub has_field : List ℕ → Fields → Bool
has_field name fields = nat_lt 0 (length (values name fields))

-- a value lists the word, in any ASCII case
abbrev pub lists_word : List ℕ → List ℕ → Bool
lists_word word value = list_any (λ part. str_eq_ignore_ascii_case (trim_ows part) word) (comma_parts value)

-- one to eighteen digits
abbrev pub is_length : List ℕ → Bool
is_length value = nat_le 1 (length value) && nat_le (length value) 18 && list_all is_ascii_digit value

-- it is a length, and that number
abbrev pub writes_number : ℕ → List ℕ → Bool
writes_number number value = is_length value && (digits_value 10 value == number)

-- the number that the values write: each is a length, and all are of the same value
abbrev pub common_length : List (List ℕ) → Option ℕ
common_length [] = None
common_length (first ∷ others) =
    if list_all (writes_number (digits_value 10 first)) (first ∷ others)
    then Some (digits_value 10 first) else None
