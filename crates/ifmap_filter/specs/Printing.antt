-- The text of a filter.
use Rattle.std.specs.Prelude.{◌≡◌, ℕ, ◌+◌, Bool, not, ◌==◌, if◌then◌else◌, List, [], ◌∷◌, ◌++◌, IsUtf8, codes, MatchResult, Option, Some, None, Result}
use Rattle.std.specs.List.{flat_map, list_any, prefix_len}
use Rattle.std.specs.Str.{bytes_eq}
use Rattle.ifmap_lemmas.specs.Numerals.{numeral}
use Rattle.ifmap_elem.specs.Chars.{colon, double_quote, single_quote}
use Rattle.ifmap_elem.specs.Scopes.{xml_space}
use Rattle.ifmap_elem.specs.declared.elements.Name.{Name}
use Rattle.ifmap_prefixes.specs.ifmap_reader.declared.scoping.Scope.{Scope}
use Rattle.ifmap_filter.specs.declared.errors.FilterError.{FilterError}
use Rattle.ifmap_filter.specs.declared.errors.FilterError.TheVariants.{NoMemory}
use Rattle.ifmap_filter.specs.declared.filters.Predicate.{Predicate, fold-Predicate}
use Rattle.ifmap_filter.specs.declared.filters.Predicate.TheOpen.{Predicate-F}
use Rattle.ifmap_filter.specs.declared.filters.Test.{Test}
use Rattle.ifmap_filter.specs.declared.filters.Filter.{Filter}
use Rattle.ifmap_filter.specs.declared.printing.Around.{Around}
use Rattle.ifmap_filter.specs.declared.printing.Around.TheVariants.{Brackets, Ands, Ors}
use Rattle.ifmap_filter.specs.Grammar.{depth_limit}
use Rattle.ifmap_filter.specs.Texts.{IsParsed, WritesFilter, WritesFilterWithin}

-- the prefix with that number: `f1`, `f2` and so on
abbrev pub numbered_prefix : ℕ → List ℕ
numbered_prefix number = codes "f" ++ numeral number

-- the scope in which the namespaces have the prefixes `f1`, `f2` and so on
abbrev pub numbered_rows : ℕ → List (List ℕ) → List (List ℕ × List ℕ)
numbered_rows number [] = []
numbered_rows number (space ∷ spaces) = (numbered_prefix number, space) ∷ numbered_rows (number + 1) spaces

abbrev pub numbered_scope : List (List ℕ) → Scope
numbered_scope spaces = record { rows = numbered_rows 1 spaces }

-- the place of the namespace among the others, counted from 0
abbrev pub space_place : List ℕ → List (List ℕ) → ℕ
space_place space spaces = prefix_len (λ s. not (bytes_eq s space)) spaces

-- a name: without a prefix where it is in no namespace, with `xml` where it is in that of `xml`, and else with the prefix of the place
-- of its namespace
abbrev pub name_text : List (List ℕ) → Name → List ℕ
name_text spaces name =
    if bytes_eq name.space [] then name.local else if bytes_eq name.space xml_space then codes "xml:" ++ name.local
    else numbered_prefix (space_place name.space spaces + 1) ++ (colon ∷ name.local)

abbrev pub has_single_quote : List ℕ → Bool
has_single_quote value = list_any (λ b. b == single_quote) value

-- in single quotes, or in double quotes where it has a single one
abbrev pub quote_of : List ℕ → ℕ
quote_of value = if has_single_quote value then double_quote else single_quote

abbrev pub literal_text : List ℕ → List ℕ
literal_text value = quote_of value ∷ (value ++ (quote_of value ∷ []))

-- what is printed of the first, and then of each other after a word
abbrev pub joined_texts : {X : Type 0} → List ℕ → (X → List ℕ) → List X → List ℕ
joined_texts word text [] = []
joined_texts word text (x ∷ xs) = text x ++ flat_map (λ y. word ++ text y) xs

-- a predicate alone, as a part of an `and`, and as a part of an `or`
pub record PredicateText : Type 0 where
  pub alone : List ℕ
  pub in_and : List ℕ
  pub in_or : List ℕ

abbrev pub comparison_text : List ℕ → PredicateText
comparison_text text = record { alone = text; in_and = text; in_or = text }

abbrev pub group_text : List ℕ → List ℕ
group_text text = codes "(" ++ (text ++ codes ")")

abbrev pub ands_text : List ℕ → PredicateText
ands_text text = record { alone = text; in_and = group_text text; in_or = text }

abbrev pub ors_text : List ℕ → PredicateText
ors_text text = record { alone = text; in_and = group_text text; in_or = group_text text }

abbrev pub attribute_text : List ℕ → List ℕ → List ℕ
attribute_text local value = codes "@" ++ (local ++ (codes "=" ++ literal_text value))

abbrev pub child_text : List (List ℕ) → Name → List ℕ → List ℕ
child_text spaces name value = name_text spaces name ++ (codes "=" ++ literal_text value)

abbrev pub predicate_text_of : List (List ℕ) → Predicate-F PredicateText → PredicateText
predicate_text_of spaces (Predicate-F.Attr local value) = comparison_text (attribute_text local value)
predicate_text_of spaces (Predicate-F.Child name value) = comparison_text (child_text spaces name value)
predicate_text_of spaces (Predicate-F.And parts) = ands_text (joined_texts (codes " and ") (λ p. p.in_and) parts)
predicate_text_of spaces (Predicate-F.Or parts) = ors_text (joined_texts (codes " or ") (λ p. p.in_or) parts)

abbrev pub predicate_text : List (List ℕ) → Predicate → PredicateText
predicate_text spaces = fold-Predicate PredicateText (predicate_text_of spaces)

abbrev pub test_name_text : List (List ℕ) → Option Name → List ℕ
test_name_text spaces None = codes "*"
test_name_text spaces (Some name) = name_text spaces name

abbrev pub brackets_text : List (List ℕ) → Option Predicate → List ℕ
brackets_text spaces None = []
brackets_text spaces (Some p) = codes "[" ++ ((predicate_text spaces p).alone ++ codes "]")

abbrev pub test_text : List (List ℕ) → Test → List ℕ
test_text spaces test = test_name_text spaces test.name ++ brackets_text spaces test.predicate

abbrev pub filter_text : List (List ℕ) → Filter → List ℕ
filter_text spaces filter = joined_texts (codes " or ") (test_text spaces) filter.tests

-- some text in some scope is this filter, with parentheses that nest at most so deep
pub record CanBeParsedWithin (depth : ℕ) (filter : Filter) : Type 0 where
  pub text : List ℕ
  pub scope : Scope
  pub is_text : IsUtf8 text
  pub writes : WritesFilterWithin depth text scope filter

abbrev pub CanBeParsed : Filter → Type 0
CanBeParsed = CanBeParsedWithin depth_limit

-- the text writes the filter where the namespaces have the prefixes `f1`, `f2` and so on, if some text in some scope does
abbrev pub WritesBack : List ℕ → List (List ℕ) → Filter → Type 0
WritesBack text spaces filter = CanBeParsed filter → WritesFilter text (numbered_scope spaces) filter

-- and then its parentheses nest no deeper than those of that text
abbrev pub NestsNoDeeper : List ℕ → List (List ℕ) → Filter → Type 0
NestsNoDeeper text spaces filter =
    (depth : ℕ) → CanBeParsedWithin depth filter → WritesFilterWithin depth text (numbered_scope spaces) filter

-- what `parse` answers of the text in that scope: the filter, unless there is want of memory
abbrev pub IsAnsweredBack : List ℕ → List (List ℕ) → Filter → Type 0
IsAnsweredBack text spaces filter =
    (result : Result Filter FilterError) → IsParsed text (numbered_scope spaces) result
    → MatchResult result (λ parsed. parsed ≡ filter) (λ error. error ≡ NoMemory)

-- where a predicate stands: in the brackets of a test, or as a part of an `and` or of an `or`
abbrev pub text_in : Around → PredicateText → List ℕ
text_in Brackets p = p.alone
text_in Ands p = p.in_and
text_in Ors p = p.in_or

-- the word between those that stand there; in brackets there is one alone
abbrev pub word_in : Around → List ℕ
word_in Brackets = []
word_in Ands = codes " and "
word_in Ors = codes " or "

abbrev pub parts_text : List (List ℕ) → Around → List Predicate → List ℕ
parts_text spaces around parts = joined_texts (word_in around) (λ p. text_in around (predicate_text spaces p)) parts
