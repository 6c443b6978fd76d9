-- Elements with their attributes in order, which is how elements are compared.
use Rattle.std.specs.Prelude.{◌≡◌, List}
use Rattle.std.specs.Cmp.Lexicographic.{slice_cmp}
use Rattle.std.specs.Ordering.{nat_cmp, ordering_then}
use Rattle.std.specs.declared.cmp.Ordering.{Ordering}
use Rattle.ifmap_elem.specs.declared.elements.Name.{Name}
use Rattle.ifmap_elem.specs.declared.elements.Attribute.{Attribute}
use Rattle.ifmap_elem.specs.declared.elements.Child.{Child, fold-Child}
use Rattle.ifmap_elem.specs.declared.elements.Child as the
use Rattle.ifmap_elem.specs.declared.elements.Element.{Element, fold-Element}
use Rattle.ifmap_elem.specs.declared.elements.Child.TheOpen.{Child-F, Element-F}
use Rattle.ifmap_lemmas.specs.Sorting.{in_order}

-- by the bytes of the namespace, then by those of the local name; no namespace comes first
abbrev pub name_order : Name → Name → Ordering
name_order m n = ordering_then (slice_cmp nat_cmp m.space n.space) (slice_cmp nat_cmp m.local n.local)

-- by name; two attributes of one name, which no fit element has, by the bytes of their values
abbrev pub attribute_order : Attribute → Attribute → Ordering
attribute_order a b = ordering_then (name_order a.name b.name) (slice_cmp nat_cmp a.value b.value)

-- attributes in rising order
abbrev pub sort_attributes : List Attribute → List Attribute
sort_attributes attributes = in_order attribute_order attributes

-- of a child, where the element in it is arranged already
abbrev pub arrange_child_of : Child-F Child Element → Child
arrange_child_of (Child-F.Element e) = the.Element e
arrange_child_of (Child-F.Text t) = the.Text t

-- of an element, where its children are arranged already
abbrev pub arrange_element_of : Element-F Child Element → Element
arrange_element_of e = record { name = e.name; attributes = sort_attributes e.attributes; children = e.children }

-- the element with its attributes, and those of all elements in it, in order
abbrev pub arrange : Element → Element
arrange = fold-Element Child Element arrange_child_of arrange_element_of

-- the child with the attributes of all elements in it in order
abbrev pub arrange_child : Child → Child
arrange_child = fold-Child Child Element arrange_child_of arrange_element_of

-- two elements are the same but for the order of attributes
abbrev pub IsSame : Element → Element → Type 0
IsSame a b = arrange a ≡ arrange b
