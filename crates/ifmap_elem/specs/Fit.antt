-- Elements that a document can have (XML 1.0, fifth edition, and Namespaces in XML 1.0, with the profile of texts that this crate reads).
use Rattle.std.specs.Prelude.{◌≢◌, ℕ, List, [], ◌∷◌, map, codes, Bool, true, false, IsTrue}
use Rattle.std.specs.List.{AllByRecursion, flat_map, list_any}
use Rattle.ifmap_elem.specs.Chars.{IsCharacters, IsWhite}
use Rattle.ifmap_elem.specs.Names.{IsNamePart}
use Rattle.ifmap_elem.specs.Namespaces.{is_declared}
use Rattle.ifmap_elem.specs.Scopes.{AllDiffer, xmlns_space}
use Rattle.ifmap_elem.specs.declared.elements.Name.{Name}
use Rattle.ifmap_elem.specs.declared.elements.Attribute.{Attribute}
use Rattle.ifmap_elem.specs.declared.elements.Child.{Child, out-Child}
use Rattle.ifmap_elem.specs.declared.elements.Child as the
use Rattle.ifmap_elem.specs.declared.elements.Element.{Element, fold-Element}
use Rattle.ifmap_elem.specs.declared.elements.Child.TheOpen.{Child-F, Element-F}

-- a namespace that a document can declare, or none
pub record IsNamespace (space : List ℕ) : Type 0 where
  pub characters : IsCharacters space
  pub not_reserved : space ≢ xmlns_space

-- a namespace that a root can declare by a prefix of a letter and a number
pub record IsDeclarable (space : List ℕ) : Type 0 where
  pub fit : IsNamespace space
  pub declared : IsTrue (is_declared space)

pub record IsFitName (name : Name) : Type 0 where
  pub space : IsNamespace name.space
  pub local : IsNamePart name.local

-- an attribute of a document; `xmlns` without a namespace is a declaration and no attribute
pub record IsFitAttribute (a : Attribute) : Type 0 where
  pub name : IsFitName a.name
  pub no_declaration : a.name ≢ record { space = []; local = codes "xmlns" }
  pub value : IsCharacters a.value

-- a text has some characters
abbrev pub HasCharacters : Child-F Child Element → Type 0
HasCharacters (Child-F.Element e) = Unit {0}
HasCharacters (Child-F.Text text) = (text ≢ []) × IsCharacters text

-- a text is not white space alone
abbrev pub IsNotBlank : Child-F Child Element → Type 0
IsNotBlank (Child-F.Element e) = Unit {0}
IsNotBlank (Child-F.Text text) = IsWhite text → ⊥

-- no two texts stand side by side
abbrev pub AreApart : List (Child-F Child Element) → Type 0
AreApart [] = Unit {0}
AreApart (Child-F.Element e ∷ others) = AreApart others
AreApart (Child-F.Text text ∷ []) = Unit {0}
AreApart (Child-F.Text text ∷ (Child-F.Element e ∷ others)) = AreApart others
AreApart (Child-F.Text text ∷ (Child-F.Text more ∷ others)) = ⊥

abbrev pub is_element : Child-F Child Element → Bool
is_element (Child-F.Element e) = true
is_element (Child-F.Text text) = false

-- children as a document can have them: no empty text, no two texts side by side, no white space alone beside an element
pub record AreFitChildren (children : List (Child-F Child Element)) : Type 0 where
  pub texts : AllByRecursion HasCharacters children
  pub apart : AreApart children
  pub beside : IsTrue (list_any is_element children) → AllByRecursion IsNotBlank children

-- the element fits, whatever the elements in it are
pub record IsFitAlone (e : Element) : Type 0 where
  pub name : IsFitName e.name
  pub attributes : AllByRecursion IsFitAttribute e.attributes
  pub names_differ : AllDiffer (map (λ a. a.name) e.attributes)
  pub children : AreFitChildren (map out-Child e.children)

-- a child or an element, with the elements in it, itself among them
abbrev pub child_with_elements : Child-F (Child × List Element) (Element × List Element) → Child × List Element
child_with_elements (Child-F.Element e) = (the.Element e.0, e.1)
child_with_elements (Child-F.Text text) = (the.Text text, [])

abbrev pub element_with_elements : Element-F (Child × List Element) (Element × List Element) → Element × List Element
element_with_elements e =
    let itself : Element = record { name = e.name; attributes = e.attributes; children = map (λ c. c.0) e.children } in
    (itself, itself ∷ flat_map (λ c. c.1) e.children)

-- the element and all elements in it, in their order
abbrev pub elements_of : Element → List Element
elements_of e = (fold-Element (Child × List Element) (Element × List Element) child_with_elements element_with_elements e).1

-- an element that a document can have
abbrev pub IsFit : Element → Type 0
IsFit e = AllByRecursion IsFitAlone (elements_of e)
