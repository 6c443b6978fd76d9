-- The attributes of a root that is printed, and what stands in it.
use Rattle.std.specs.Prelude.{List, map}
use Rattle.ifmap_elem.specs.declared.elements.Attribute.{Attribute}
use Rattle.ifmap_elem.specs.declared.elements.Child.{Child}
use Rattle.ifmap_elem.specs.declared.elements.Element as the
use Rattle.ifmap_elem.specs.declared.elements.Name.{Name}
use Rattle.ifmap_elem.specs.declared.printing.RootContent.{RootContent}
use Rattle.ifmap_elem.specs.declared.printing.RootContent.TheVariants.{Element, Outline}
use Rattle.ifmap_elem.specs.Outlines.{outline_child}

-- the attributes that it has
abbrev pub attributes_in : RootContent → List Attribute
attributes_in (Element attributes children) = attributes.now
attributes_in (Outline attributes pieces) = attributes.now

-- the children that it stands for
abbrev pub children_in : RootContent → List Child
children_in (Element attributes children) = children.now
children_in (Outline attributes pieces) = map outline_child pieces.now

-- the root around it
abbrev pub root_of : Name → RootContent → the.Element
root_of name content = record { name = name; attributes = attributes_in content; children = children_in content }
