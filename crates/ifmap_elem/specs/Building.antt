-- Names, attributes and elements in no namespace (Namespaces in XML 1.0, section 6.2).
use Rattle.std.specs.Prelude.{ℕ, List, [], Bool, ◌&&◌, map}
use Rattle.std.specs.Str.{bytes_eq}
use Rattle.ifmap_elem.specs.declared.elements.Attribute.{Attribute}
use Rattle.ifmap_elem.specs.declared.elements.Child.{Child}
use Rattle.ifmap_elem.specs.declared.elements.Child as the
use Rattle.ifmap_elem.specs.declared.elements.Element.{Element}
use Rattle.ifmap_elem.specs.declared.elements.Name.{Name}

-- the two are one name
abbrev pub is_name : Name → Name → Bool
is_name m n = bytes_eq m.space n.space && bytes_eq m.local n.local

-- a name in no namespace
abbrev pub bare_name : List ℕ → Name
bare_name local = record { space = []; local = local }

-- it is the name of this local part in no namespace
abbrev pub is_bare : List ℕ → Name → Bool
is_bare local name = bytes_eq name.space [] && bytes_eq name.local local

-- elements as children
abbrev pub as_children : List Element → List Child
as_children elements = map the.Element elements

-- an attribute of such a name
abbrev pub bare_attribute : List ℕ → List ℕ → Attribute
bare_attribute local value = record { name = bare_name local; value = value }

-- an element of such a name
abbrev pub bare_element : List ℕ → List Attribute → List Child → Element
bare_element local attributes children = record { name = bare_name local; attributes = attributes; children = children }
