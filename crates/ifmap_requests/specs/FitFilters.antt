-- Filters that requests have: what they ask for is what a document can have, and a text writes them.
use Rattle.std.specs.Prelude.{ℕ, List, [], ◌∷◌, IfSome}
use Rattle.std.specs.List.{AllByRecursion, flat_map}
use Rattle.ifmap_elem.specs.Building.{bare_name}
use Rattle.ifmap_elem.specs.Chars.{IsCharacters}
use Rattle.ifmap_elem.specs.Fit.{IsFitName}
use Rattle.ifmap_elem.specs.declared.elements.Name.{Name}
use Rattle.ifmap_forms.specs.ifmap_filter.declared.filters.Predicate.{Predicate, fold-Predicate}
use Rattle.ifmap_forms.specs.ifmap_filter.declared.filters.Predicate.TheOpen.{Predicate-F}
use Rattle.ifmap_forms.specs.ifmap_filter.declared.filters.Test.{Test}
use Rattle.ifmap_forms.specs.ifmap_filter.declared.filters.Filter.{Filter}
use Rattle.ifmap_forms.specs.ifmap_filter.Printing.{CanBeParsed}

-- what a comparison asks for: an attribute in no namespace or a child, of this name and with this value
pub record Comparison : Type 0 where
  pub name : Name
  pub value : List ℕ

abbrev pub comparison : Name → List ℕ → Comparison
comparison name value = record { name = name; value = value }

abbrev pub comparisons_of : Predicate-F (List Comparison) → List Comparison
comparisons_of (Predicate-F.Attr local value) = comparison (bare_name local) value ∷ []
comparisons_of (Predicate-F.Child name value) = comparison name value ∷ []
comparisons_of (Predicate-F.And parts) = flat_map (λ part. part) parts
comparisons_of (Predicate-F.Or parts) = flat_map (λ part. part) parts

-- the comparisons in a predicate, in their order
abbrev pub comparisons : Predicate → List Comparison
comparisons = fold-Predicate (List Comparison) comparisons_of

-- the name is one that a document can have, and the value is of characters
pub record IsFitComparison (c : Comparison) : Type 0 where
  pub name : IsFitName c.name
  pub value : IsCharacters c.value

abbrev pub IsFitPredicate : Predicate → Type 0
IsFitPredicate predicate = AllByRecursion IsFitComparison (comparisons predicate)

-- it asks for any element or for a name that a document can have, and for what a fit predicate does
pub record IsFitTest (test : Test) : Type 0 where
  pub name : IfSome test.name IsFitName
  pub predicate : IfSome test.predicate IsFitPredicate

-- each test is fit, and some text in some scope writes the filter, with parentheses that nest no deeper than they may: so it can be
-- printed, and what is printed is read back
pub record IsFitFilter (filter : Filter) : Type 0 where
  pub tests : AllByRecursion IsFitTest filter.tests
  pub written : CanBeParsed filter
