-- What holds of every text and scope.
use Rattle.std.specs.Prelude.{◌≡◌, ◌⊎◌, ℕ, List, IsUtf8}
use Rattle.ifmap_prefixes.specs.ifmap_reader.declared.scoping.Scope.{Scope}
use Rattle.ifmap_filter.specs.declared.filters.Filter.{Filter}
use Rattle.ifmap_filter.specs.Printing.{CanBeParsed, IsAnsweredBack, NestsNoDeeper, WritesBack, filter_text}
use Rattle.ifmap_filter.specs.Spaces.{HasSpaces}
use Rattle.ifmap_filter.specs.Texts.{StopsAt, WritesFilter}

-- it writes a filter, or stops to write one
abbrev pub FilterOrStop : Type 0
FilterOrStop =
    (text : List ℕ) (scope : Scope) → IsUtf8 text
    → ((filter : Filter) × WritesFilter text scope filter) ⊎ ((at : ℕ) × StopsAt text scope at)

-- where it stops to write a filter, it writes none
abbrev pub StopsWhereNone : Type 0
StopsWhereNone = (text : List ℕ) (scope : Scope) (at : ℕ) → StopsAt text scope at → (filter : Filter) → WritesFilter text scope filter → ⊥

abbrev pub OneFilter : Type 0
OneFilter =
    (text : List ℕ) (scope : Scope) (filter other : Filter) → WritesFilter text scope filter → WritesFilter text scope other
    → filter ≡ other

abbrev pub OnePlace : Type 0
OnePlace = (text : List ℕ) (scope : Scope) (at other : ℕ) → StopsAt text scope at → StopsAt text scope other → at ≡ other

-- what is printed of a filter that some text writes, where each of its namespaces has a prefix, writes it in the scope of these prefixes
abbrev pub PrintedIsParsedBack : Type 0
PrintedIsParsedBack =
    (spaces : List (List ℕ)) (filter : Filter) → HasSpaces spaces filter → WritesBack (filter_text spaces filter) spaces filter

-- with parentheses that nest no deeper
abbrev pub PrintedNestsNoDeeper : Type 0
PrintedNestsNoDeeper =
    (spaces : List (List ℕ)) (filter : Filter) → HasSpaces spaces filter → NestsNoDeeper (filter_text spaces filter) spaces filter

-- and `parse` answers that filter
abbrev pub PrintedIsAnsweredBack : Type 0
PrintedIsAnsweredBack =
    (spaces : List (List ℕ)) (filter : Filter) → HasSpaces spaces filter → CanBeParsed filter
    → IsAnsweredBack (filter_text spaces filter) spaces filter
