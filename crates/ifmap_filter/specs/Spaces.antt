-- The namespaces of the names in a filter, and which namespaces serve to print it.
use Rattle.std.specs.Prelude.{◌≡◌, ℕ, Bool, true, ◌||◌, if◌then◌else◌, List, [], ◌∷◌, ◌++◌, Option, Some, None}
use Rattle.std.specs.List.{AllByRecursion, flat_map, list_all, list_any}
use Rattle.std.specs.Str.{bytes_eq}
use Rattle.ifmap_elem.specs.Namespaces.{declared_among}
use Rattle.ifmap_elem.specs.Scopes.{xml_space}
use Rattle.ifmap_elem.specs.declared.elements.Name.{Name}
use Rattle.ifmap_filter.specs.declared.filters.Predicate.{Predicate, fold-Predicate}
use Rattle.ifmap_filter.specs.declared.filters.Predicate.TheOpen.{Predicate-F}
use Rattle.ifmap_filter.specs.declared.filters.Test.{Test}
use Rattle.ifmap_filter.specs.declared.filters.Filter.{Filter}

abbrev pub predicate_spaces_of : Predicate-F (List (List ℕ)) → List (List ℕ)
predicate_spaces_of (Predicate-F.Attr local value) = []
predicate_spaces_of (Predicate-F.Child name value) = name.space ∷ []
predicate_spaces_of (Predicate-F.And parts) = flat_map (λ spaces. spaces) parts
predicate_spaces_of (Predicate-F.Or parts) = flat_map (λ spaces. spaces) parts

abbrev pub predicate_spaces : Predicate → List (List ℕ)
predicate_spaces = fold-Predicate (List (List ℕ)) predicate_spaces_of

abbrev pub name_spaces : Option Name → List (List ℕ)
name_spaces None = []
name_spaces (Some name) = name.space ∷ []

abbrev pub brackets_spaces : Option Predicate → List (List ℕ)
brackets_spaces None = []
brackets_spaces (Some predicate) = predicate_spaces predicate

-- that of the name, then those of the predicate
abbrev pub test_spaces : Test → List (List ℕ)
test_spaces test = name_spaces test.name ++ brackets_spaces test.predicate

-- the namespaces of all names in the filter, in their order, each as often as it occurs
abbrev pub filter_spaces : Filter → List (List ℕ)
filter_spaces filter = flat_map test_spaces filter.tests

-- the namespace is none or that of `xml`, which need no prefix of their own, or it is among these
abbrev pub has_space : List (List ℕ) → List ℕ → Bool
has_space spaces space = bytes_eq space [] || (bytes_eq space xml_space || list_any (bytes_eq space) spaces)

abbrev pub has_each : List (List ℕ) → List (List ℕ) → Bool
has_each spaces these = list_all (has_space spaces) these

-- the namespaces of the filter's names are among these, but for none and that of `xml`
abbrev pub HasSpaces : List (List ℕ) → Filter → Type 0
HasSpaces spaces filter = has_each spaces (filter_spaces filter) ≡ true

-- with the namespace at the end, unless it is there or needs no prefix
abbrev pub with_space : List (List ℕ) → List ℕ → List (List ℕ)
with_space spaces space = if has_space spaces space then spaces else spaces ++ space ∷ []

-- with each of these in turn
abbrev pub with_each : List (List ℕ) → List (List ℕ) → List (List ℕ)
with_each spaces [] = spaces
with_each spaces (space ∷ these) = with_each (with_space spaces space) these

-- the namespaces of several filters, each once, in the order of their first occurrence, serve to print each of them
abbrev pub ListedServeEach : Type 0
ListedServeEach =
    (filters : List Filter) → AllByRecursion (HasSpaces (declared_among (flat_map filter_spaces filters))) filters

-- where some serve, so do they with others after them
abbrev pub MoreServe : Type 0
MoreServe = (spaces more : List (List ℕ)) (filter : Filter) → HasSpaces spaces filter → HasSpaces (spaces ++ more) filter
