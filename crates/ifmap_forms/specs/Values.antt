-- What the values of attributes mean: the attributes of requests in the IF-MAP binding for SOAP, version 2.2, section 3.
use Rattle.std.specs.Prelude.{ℕ, ◌^◌, Bool, true, false, not, ◌&&◌, nat_le, nat_lt, min, max, if◌then◌else◌, List, [], ◌∷◌, codes, length, reverse, Option, None, Some, Ok, Err}
use Rattle.std.specs.List.{find, list_all}
use Rattle.std.specs.Char.{is_ascii_digit}
use Rattle.std.specs.Str.{bytes_eq}
use Rattle.std.specs.Str.Parse.{digits_value}
use Rattle.ifmap_lemmas.specs.Separated.{comma_parts}
use Rattle.ifmap_elem.specs.Chars.{is_white}
use Rattle.ifmap_elem.specs.declared.elements.Element.{Element}
use Rattle.ifmap_ident.specs.ifmap_reader.declared.scoping.Scope.{Scope}
use Rattle.ifmap_filter.specs.declared.filters.Filter.{Filter}
use Rattle.ifmap_filter.specs.Texts.{WritesFilter}
use Rattle.ifmap_filter.specs.Tokens.{without_white}
use Rattle.ifmap_ident.specs.declared.codes.Code.{Code}
use Rattle.ifmap_ident.specs.declared.codes.Code.TheVariants.{Failure, InvalidIdentifierType}
use Rattle.ifmap_ident.specs.declared.kinds.Kind.{Kind}
use Rattle.ifmap_ident.specs.Kinds.{kind_name, kinds}
use Rattle.ifmap_ident.specs.Parts.{value_of}
use Rattle.ifmap_forms.specs.Checks.{Check, check_if, check_then, fail, need, need_some, pass}

-- an attribute: its name, and what its value means in a scope, or that there is none
pub record Field (X : Type 0) : Type 1 where
  pub local : List ℕ
  pub reads : Scope → Option (List ℕ) → Check X

-- what an element means by the attribute
abbrev pub field_check : {X : Type 0} → Field X → Scope → Element → Check X
field_check field scope e = field.reads scope (value_of field.local e)

-- ---- texts

-- any text, which must be there
abbrev pub read_text : Option (List ℕ) → Check (List ℕ)
read_text None = fail Failure
read_text (Some text) = pass text

abbrev pub text_field : List ℕ → Field (List ℕ)
text_field local = record { local = local; reads = λ scope. read_text }

-- the session of a request or of a result, and the publisher that one speaks of
abbrev pub session_field : Field (List ℕ)
session_field = text_field (codes "session-id")

abbrev pub publisher_field : Field (List ℕ)
publisher_field = text_field (codes "ifmap-publisher-id")

-- the most bytes of the name of a subscription
abbrev pub longest_name : ℕ
longest_name = 1_000

-- a text of one byte to so many, which must be there
abbrev pub read_name : Option (List ℕ) → Check (List ℕ)
read_name None = fail Failure
read_name (Some text) = need (nat_le 1 (length text) && nat_le (length text) longest_name) Failure (pass text)

abbrev pub name_field : Field (List ℕ)
name_field = record { local = codes "name"; reads = λ scope. read_name }

-- ---- numbers

-- one digit or more
abbrev pub is_number : List ℕ → Bool
is_number text = not (bytes_eq text []) && list_all is_ascii_digit text

abbrev pub number_of_digits : List ℕ → Option ℕ
number_of_digits text = if is_number text then Some (digits_value 10 text) else None

-- the number, or the end of the range that it passes
abbrev pub within_range : ℕ → ℕ → ℕ → ℕ
within_range low high n = max low (min n high)

-- the range of how large a poll's result may be
abbrev pub least_limit : ℕ
least_limit = 10_000

abbrev pub greatest_limit : ℕ
greatest_limit = 5_000_000

-- how large a poll's result may be, put into this range, where it is said
abbrev pub read_limit : Option (List ℕ) → Check (Option ℕ)
read_limit None = pass None
read_limit (Some text) = need_some Failure (number_of_digits text) (λ n. pass (Some (within_range least_limit greatest_limit n)))

abbrev pub limit_field : Field (Option ℕ)
limit_field = record { local = codes "max-poll-result-size"; reads = λ scope. read_limit }

-- a number below 2^32
abbrev pub word_check : List ℕ → Check ℕ
word_check text = need_some Failure (number_of_digits text) (λ n. need (nat_lt n (2 ^ 32)) Failure (pass n))

-- the most links of a walk: below 2^32, and 0 where it is not said
abbrev pub read_depth : Option (List ℕ) → Check ℕ
read_depth None = pass 0
read_depth (Some text) = word_check text

abbrev pub depth_field : Field ℕ
depth_field = record { local = codes "max-depth"; reads = λ scope. read_depth }

-- how large the result of a search may be where it is not said, and at most
abbrev pub usual_size : ℕ
usual_size = 100_000

abbrev pub greatest_size : ℕ
greatest_size = 50_000_000

-- how large the result of a search may be
abbrev pub read_size : Option (List ℕ) → Check ℕ
read_size None = pass usual_size
read_size (Some text) = need_some Failure (number_of_digits text) (λ n. pass (min n greatest_size))

abbrev pub size_field : Field ℕ
size_field = record { local = codes "max-size"; reads = λ scope. read_size }

-- ---- lifetimes

-- whether what is published stays when the session ends
abbrev pub read_lifetime : Option (List ℕ) → Check Bool
read_lifetime None = pass false
read_lifetime (Some text) =
    check_if (bytes_eq text (codes "session")) (pass false) (check_if (bytes_eq text (codes "forever")) (pass true) (fail Failure))

abbrev pub lifetime_field : Field Bool
lifetime_field = record { local = codes "lifetime"; reads = λ scope. read_lifetime }

-- ---- filters

-- the text is no filter, where names have the prefixes in scope at its element
abbrev pub FilterDefect : Code → Scope → List ℕ → Type 0
FilterDefect Failure scope text = (filter : Filter) → WritesFilter text scope filter → ⊥
FilterDefect _ scope text = ⊥

abbrev pub filter_check : Scope → List ℕ → Check Filter
filter_check scope text (Ok filter) = WritesFilter text scope filter
filter_check scope text (Err code) = FilterDefect code scope text

abbrev pub read_filter : Scope → Option (List ℕ) → Check (Option Filter)
read_filter scope None = pass None
read_filter scope (Some text) = check_then (filter_check scope text) (λ filter. pass (Some filter))

abbrev pub filter_field : List ℕ → Field (Option Filter)
filter_field local = record { local = local; reads = read_filter }

-- ---- kinds of identifiers, with commas between them

-- white space is at the front
abbrev pub begins_white : List ℕ → Bool
begins_white [] = false
begins_white (b ∷ bs) = is_white b

-- the text without white space at its ends
abbrev pub trim_white : List ℕ → List ℕ
trim_white text = reverse (without_white (reverse (without_white text)))

abbrev pub kind_named : List ℕ → Option Kind
kind_named text = find (λ kind. bytes_eq (kind_name kind) text) kinds

abbrev pub piece_check : List ℕ → Check Kind
piece_check piece = need_some InvalidIdentifierType (kind_named (trim_white piece)) (λ kind. pass kind)

abbrev pub kinds_check : List (List ℕ) → Check (List Kind)
kinds_check [] = pass []
kinds_check (piece ∷ pieces) =
    check_then (piece_check piece) (λ kind. check_then (kinds_check pieces) (λ others. pass (kind ∷ others)))

-- the kinds from which no walk goes on; a blank text names none
abbrev pub read_kinds : Option (List ℕ) → Check (List Kind)
read_kinds None = pass []
read_kinds (Some text) = check_if (list_all is_white text) (pass []) (kinds_check (comma_parts text))

abbrev pub kinds_field : Field (List Kind)
kinds_field = record { local = codes "terminal-identifier-type"; reads = λ scope. read_kinds }
