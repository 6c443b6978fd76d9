-- What the element of an identifier can have in it.
use Rattle.std.specs.Prelude.{ℕ, List, [], Bool, not, ◌||◌, Option, option_map}
use Rattle.std.specs.List.{filter, find, list_all, list_any}
use Rattle.std.specs.Str.{bytes_eq}
use Rattle.ifmap_elem.specs.Building.{is_bare}
use Rattle.ifmap_elem.specs.WhiteSpace.{is_blank}
use Rattle.ifmap_elem.specs.declared.elements.Attribute.{Attribute}
use Rattle.ifmap_elem.specs.declared.elements.Child.{Child}
use Rattle.ifmap_elem.specs.declared.elements.Element.{Element}

-- the value of the attribute of this local name in no namespace, if there is one
abbrev pub value_of : List ℕ → Element → Option (List ℕ)
value_of local e = option_map (λ a. a.value) (find (λ a. is_bare local a.name) e.attributes)

-- the attribute has a namespace, or one of these names
abbrev pub is_known : List (List ℕ) → Attribute → Bool
is_known locals a = not (bytes_eq a.name.space []) || list_any (bytes_eq a.name.local) locals

-- no attribute but these and those of a namespace
abbrev pub has_only : List (List ℕ) → Element → Bool
has_only locals e = list_all (is_known locals) e.attributes

-- no child but white space
abbrev pub is_blank_inside : Element → Bool
is_blank_inside e = list_all is_blank e.children

-- the child is something else
abbrev pub is_solid : Child → Bool
is_solid child = not (is_blank child)

-- the children but for white space
abbrev pub solid_children : Element → List Child
solid_children e = filter is_solid e.children
