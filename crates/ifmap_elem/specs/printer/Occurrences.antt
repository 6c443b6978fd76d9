-- How often an attribute stands in a list.
use Rattle.std.specs.Prelude.{ℕ, List, Bool, ◌&&◌, count_by}
use Rattle.std.specs.Str.{bytes_eq}
use Rattle.ifmap_elem.specs.declared.elements.Attribute.{Attribute}

-- both have one name and one value
abbrev pub attribute_eq : Attribute → Attribute → Bool
attribute_eq a b = (bytes_eq a.name.space b.name.space && bytes_eq a.name.local b.name.local) && bytes_eq a.value b.value

abbrev pub occurrences_of : Attribute → List Attribute → ℕ
occurrences_of a list = count_by (λ b. attribute_eq b a) list
