-- The namespaces of an element in the order of their first occurrence, and their prefixes (Namespaces in XML 1.0).
use Rattle.std.specs.Prelude.{◌≡◌, ℕ, ◌+◌, List, [], ◌∷◌, ◌++◌, map, Bool, not, ◌&&◌, codes}
use Rattle.std.specs.List.{filter, flat_map}
use Rattle.ifmap_lemmas.specs.Numerals.{numeral}
use Rattle.std.specs.Str.{bytes_eq}
use Rattle.ifmap_elem.specs.declared.elements.Child.{fold-Child, Child}
use Rattle.ifmap_elem.specs.declared.elements.Element.{Element, fold-Element}
use Rattle.ifmap_elem.specs.declared.elements.Child.TheOpen.{Child-F, Element-F}
use Rattle.ifmap_elem.specs.Scopes.{xml_space}

abbrev pub child_spaces : Child-F (List (List ℕ)) (List (List ℕ)) → List (List ℕ)
child_spaces (Child-F.Element spaces) = spaces
child_spaces (Child-F.Text text) = []

-- the name's, those of the attributes, then those of the children
abbrev pub element_spaces : Element-F (List (List ℕ)) (List (List ℕ)) → List (List ℕ)
element_spaces e = e.name.space ∷ (map (λ a. a.name.space) e.attributes ++ flat_map (λ spaces. spaces) e.children)

-- the namespaces of all names in an element, in their order, each as often as it occurs
abbrev pub spaces_of : Element → List (List ℕ)
spaces_of = fold-Element (List (List ℕ)) (List (List ℕ)) child_spaces element_spaces

abbrev pub spaces_of_child : Child → List (List ℕ)
spaces_of_child = fold-Child (List (List ℕ)) (List (List ℕ)) child_spaces element_spaces

-- each member once, at its first place
abbrev pub once_each : List (List ℕ) → List (List ℕ)
once_each [] = []
once_each (x ∷ xs) = x ∷ filter (λ y. not (bytes_eq y x)) (once_each xs)

-- a namespace that is declared: not the lack of one, and not that of `xml`
abbrev pub is_declared : List ℕ → Bool
is_declared space = not (bytes_eq space []) && not (bytes_eq space xml_space)

-- those that are declared, in the order of their first occurrence
abbrev pub declared_among : List (List ℕ) → List (List ℕ)
declared_among spaces = once_each (filter is_declared spaces)

-- the namespaces that an element declares where it is the root
abbrev pub namespaces : Element → List (List ℕ)
namespaces e = declared_among (spaces_of e)

-- namespaces with the prefixes of a letter and a number, the first with this one
abbrev pub numbered_prefixes : List ℕ → ℕ → List (List ℕ) → List (List ℕ × List ℕ)
numbered_prefixes letter number [] = []
numbered_prefixes letter number (space ∷ spaces) = (space, letter ++ numeral number) ∷ numbered_prefixes letter (number + 1) spaces

-- the prefixes by which names are written where these namespaces are declared: `xml`, `n1`, `n2` and so on
abbrev pub name_prefixes : List (List ℕ) → List (List ℕ × List ℕ)
name_prefixes spaces = (xml_space, codes "xml") ∷ numbered_prefixes (codes "n") 1 spaces

-- old are the declared ones among some, and new are those among the same and these after them
abbrev pub AddsSpaces : List (List ℕ) → List (List ℕ) → List (List ℕ) → Type 0
AddsSpaces old spaces new = (seen : List (List ℕ)) → old ≡ declared_among seen → new ≡ declared_among (seen ++ spaces)

-- the second list begins with the first
abbrev pub IsFront : List (List ℕ) → List (List ℕ) → Type 0
IsFront front all = (more : List (List ℕ)) × (all ≡ front ++ more)
