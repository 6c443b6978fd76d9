-- Elements as the children of an element: they are children as a document can have them.
use Rattle.std.proofs.Common.{◌≡◌, List, [], ◌∷◌, map, refl, sym, subst}
use Rattle.std.specs.List.{AllByRecursion}
use Rattle.ifmap_elem.specs.Building.{as_children}
use Rattle.ifmap_elem.specs.Fit.{AreApart, AreFitChildren, HasCharacters, IsNotBlank}
use Rattle.ifmap_elem.specs.declared.elements.Child.{Child, out-Child}
use Rattle.ifmap_elem.specs.declared.elements.Child.TheOpen.{Child-F}
use Rattle.ifmap_elem.specs.declared.elements.Element.{Element}
use Rattle.ifmap_elem.specs.laws.ArrangedLaws.{out_element}

-- an element as a part of another's children
abbrev pub element_part : Element → Child-F Child Element
element_part e = Child-F.Element e

abbrev pub as_parts : List Element → List (Child-F Child Element)
as_parts es = map element_part es

-- elements as children are these elements
pub parts_are : (es : List Element) → map out-Child (as_children es) ≡ as_parts es
parts_are [] = refl
parts_are (e ∷ es) = (λ i. out_element e i ∷ parts_are es i)

have_characters : (es : List Element) → AllByRecursion HasCharacters (as_parts es)
have_characters [] = tt
have_characters (e ∷ es) = (tt, have_characters es)

are_apart : (es : List Element) → AreApart (as_parts es)
are_apart [] = tt
are_apart (e ∷ es) = are_apart es

not_blank : (es : List Element) → AllByRecursion IsNotBlank (as_parts es)
not_blank [] = tt
not_blank (e ∷ es) = (tt, not_blank es)

-- a document can have elements alone as children
pub children_fit : (es : List Element) → AreFitChildren (map out-Child (as_children es))
children_fit es =
    subst AreFitChildren (sym (parts_are es))
    (record { texts = have_characters es; apart = are_apart es; beside = λ any. not_blank es })
