-- What an element has of what predicates ask for.
use Rattle.std.specs.Prelude.{ℕ, List, [], Bool, false, ◌&&◌}
use Rattle.std.specs.List.{flat_map, list_any}
use Rattle.std.specs.Str.{bytes_eq}
use Rattle.ifmap_elem.specs.declared.elements.Name.{Name}
use Rattle.ifmap_elem.specs.declared.elements.Attribute.{Attribute}
use Rattle.ifmap_elem.specs.declared.elements.Child.{Child, out-Child}
use Rattle.ifmap_elem.specs.declared.elements.Element.{Element}
use Rattle.ifmap_elem.specs.declared.elements.Child.TheOpen.{Child-F}
use Rattle.ifmap_elem.specs.Building.{is_name}

-- the attribute of this local name in no namespace has this value
abbrev pub is_attribute : List ℕ → List ℕ → Attribute → Bool
is_attribute local value a = is_name a.name (record { space = []; local = local }) && bytes_eq a.value value

abbrev pub has_attribute : List ℕ → List ℕ → Element → Bool
has_attribute local value element = list_any (is_attribute local value) element.attributes

-- what a child adds to the text of its element: a text its own characters, an element nothing
abbrev pub own_text_of : Child-F Child Element → List ℕ
own_text_of (Child-F.Element element) = []
own_text_of (Child-F.Text text) = text

abbrev pub own_text : Child → List ℕ
own_text child = own_text_of (out-Child child)

-- the text of an element: its text children, joined
abbrev pub text_among : List Child → List ℕ
text_among children = flat_map own_text children

abbrev pub has_text : List ℕ → List Child → Bool
has_text value children = bytes_eq (text_among children) value

-- the element has this name and this text
abbrev pub is_text_element : Name → List ℕ → Element → Bool
is_text_element name value element = is_name element.name name && has_text value element.children

abbrev pub is_child_of : Name → List ℕ → Child-F Child Element → Bool
is_child_of name value (Child-F.Element element) = is_text_element name value element
is_child_of name value (Child-F.Text text) = false

-- the child is an element of this name with this text
abbrev pub is_child_with : Name → List ℕ → Child → Bool
is_child_with name value child = is_child_of name value (out-Child child)

abbrev pub has_child : Name → List ℕ → Element → Bool
has_child name value element = list_any (is_child_with name value) element.children
