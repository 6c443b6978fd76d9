-- The elements that outlines stand for.
use Rattle.std.specs.Prelude.{List}
use Rattle.ifmap_elem.specs.Building.{bare_name}
use Rattle.ifmap_elem.specs.declared.elements.Attribute.{Attribute}
use Rattle.ifmap_elem.specs.declared.elements.Child.{Child}
use Rattle.ifmap_elem.specs.declared.elements.Child as the
use Rattle.ifmap_elem.specs.declared.elements.Element.{Element}
use Rattle.ifmap_elem.specs.declared.elements.Name.{Name}
use Rattle.ifmap_elem.specs.declared.outlines.Label.{Label}
use Rattle.ifmap_elem.specs.declared.outlines.Label.TheVariants.{Bare, Named}
use Rattle.ifmap_elem.specs.declared.outlines.Piece.{Piece, fold-Piece}
use Rattle.ifmap_elem.specs.declared.outlines.Outline.{Outline, fold-Outline}
use Rattle.ifmap_elem.specs.declared.outlines.Piece.TheOpen.{Piece-F, Outline-F}

-- the name that a label is
abbrev pub label_name : Label → Name
label_name (Bare local) = bare_name local.now
label_name (Named name) = name.now

-- an element of this name, with these attributes and children
abbrev pub named_element : Name → List Attribute → List Child → Element
named_element name attributes children = record { name = name; attributes = attributes; children = children }

-- of a piece, where the outline in it is an element already
abbrev pub outline_child_of : Piece-F Child Element → Child
outline_child_of (Piece-F.Text text) = the.Text text.now
outline_child_of (Piece-F.Shared element) = the.Element element.now
outline_child_of (Piece-F.Outline element) = the.Element element

-- of an outline, where its pieces are children already
abbrev pub outline_element_of : Outline-F Child Element → Element
outline_element_of o = record { name = label_name o.label; attributes = o.attributes; children = o.pieces }

-- the child that a piece stands for
abbrev pub outline_child : Piece → Child
outline_child = fold-Piece Child Element outline_child_of outline_element_of

-- the element that an outline stands for
abbrev pub outline_element : Outline → Element
outline_element = fold-Outline Child Element outline_child_of outline_element_of
