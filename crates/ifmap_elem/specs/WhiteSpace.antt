-- White space between elements: XML 1.0 (fifth edition), section 2.3.
use Rattle.std.specs.Prelude.{Bool, false}
use Rattle.std.specs.List.{list_all}
use Rattle.ifmap_elem.specs.Chars.{is_white}
use Rattle.ifmap_elem.specs.declared.elements.Child.{Child, out-Child}
use Rattle.ifmap_elem.specs.declared.elements.Element.{Element}
use Rattle.ifmap_elem.specs.declared.elements.Child.TheOpen.{Child-F}

-- the part of an element is a text of white space alone
abbrev pub is_blank_part : Child-F Child Element → Bool
is_blank_part (Child-F.Element e) = false
is_blank_part (Child-F.Text text) = list_all is_white text

-- the child is such a text
abbrev pub is_blank : Child → Bool
is_blank child = is_blank_part (out-Child child)
