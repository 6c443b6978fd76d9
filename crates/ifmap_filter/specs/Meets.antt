-- Which elements meet which filters (IF-MAP binding for SOAP, version 2.2: match-links, result-filter and the filter of a delete).
use Rattle.std.specs.Prelude.{Bool, true, ◌&&◌, Option, Some, None}
use Rattle.std.specs.List.{list_all, list_any}
use Rattle.ifmap_elem.specs.declared.elements.Name.{Name}
use Rattle.ifmap_elem.specs.declared.elements.Element.{Element}
use Rattle.ifmap_elem.specs.Building.{is_name}
use Rattle.ifmap_filter.specs.declared.filters.Predicate.{Predicate, fold-Predicate}
use Rattle.ifmap_filter.specs.declared.filters.Predicate.TheOpen.{Predicate-F}
use Rattle.ifmap_filter.specs.declared.filters.Test.{Test}
use Rattle.ifmap_filter.specs.declared.filters.Filter.{Filter}
use Rattle.ifmap_filter.specs.Holding.{has_attribute, has_child}

-- the predicate holds of the element, where it is known of its parts whether they hold
abbrev pub holds_of : Element → Predicate-F Bool → Bool
holds_of element (Predicate-F.Attr local value) = has_attribute local value element
holds_of element (Predicate-F.Child name value) = has_child name value element
holds_of element (Predicate-F.And parts) = list_all (λ held. held) parts
holds_of element (Predicate-F.Or parts) = list_any (λ held. held) parts

-- the predicate holds of the element
abbrev pub holds : Element → Predicate → Bool
holds element = fold-Predicate Bool (holds_of element)

abbrev pub holds_optional : Element → Option Predicate → Bool
holds_optional element None = true
holds_optional element (Some predicate) = holds element predicate

-- no name is asked for, or the element has that name
abbrev pub has_name : Element → Option Name → Bool
has_name element None = true
has_name element (Some name) = is_name element.name name

abbrev pub meets_test : Element → Test → Bool
meets_test element test = has_name element test.name && holds_optional element test.predicate

-- the element meets one of the filter's tests
abbrev pub meets : Filter → Element → Bool
meets filter element = list_any (meets_test element) filter.tests

-- the element meets the filter; an absent one is met by each
abbrev pub meets_optional : Option Filter → Element → Bool
meets_optional None element = true
meets_optional (Some filter) element = meets filter element
