-- The one canonical byte list of an element.
use Rattle.std.specs.Prelude.{ℕ, List, [], ◌∷◌, ◌++◌, map, codes, Option, None, Some}
use Rattle.std.specs.List.{concat, flat_map}
use Rattle.std.specs.Map.{lookup}
use Rattle.std.specs.Str.{bytes_eq}
use Rattle.ifmap_elem.specs.declared.elements.Name.{Name}
use Rattle.ifmap_elem.specs.declared.elements.Attribute.{Attribute}
use Rattle.ifmap_elem.specs.declared.elements.Child.{Child, fold-Child}
use Rattle.ifmap_elem.specs.declared.elements.Element.{Element, fold-Element}
use Rattle.ifmap_elem.specs.declared.elements.Child.TheOpen.{Child-F, Element-F}
use Rattle.ifmap_elem.specs.declared.readings.Declared.{Declared}
use Rattle.ifmap_elem.specs.declared.readings.Reading.{Reading}
use Rattle.ifmap_elem.specs.Arranged.{arrange}
use Rattle.ifmap_elem.specs.Escapes.{text_bytes, value_bytes}
use Rattle.ifmap_elem.specs.Namespaces.{namespaces, numbered_prefixes, name_prefixes}

-- a local name after the prefix, if there is one
abbrev pub after_prefix : Option (List ℕ) → List ℕ → List ℕ
after_prefix None local = local
after_prefix (Some prefix) local = prefix ++ (codes ":" ++ local)

-- a name, with the prefix of its namespace
abbrev pub printed_name : List (List ℕ × List ℕ) → Name → List ℕ
printed_name prefixes name = after_prefix (lookup (bytes_eq name.space) prefixes) name.local

-- a declaration of a prefix
abbrev pub declaration_bytes : List ℕ × List ℕ → List ℕ
declaration_bytes row = codes " xmlns:" ++ (row.1 ++ (codes "=\"" ++ (value_bytes row.0 ++ codes "\"")))

abbrev pub attribute_bytes : List (List ℕ × List ℕ) → Attribute → List ℕ
attribute_bytes prefixes a = codes " " ++ (printed_name prefixes a.name ++ (codes "=\"" ++ (value_bytes a.value ++ codes "\"")))

-- what follows the attributes: `/>`, or the children as they are printed and an end tag
abbrev pub after_attributes_bytes : List ℕ → List (List ℕ) → List ℕ
after_attributes_bytes name [] = codes "/>"
after_attributes_bytes name (first ∷ others) = codes ">" ++ (concat (first ∷ others) ++ (codes "</" ++ (name ++ codes ">")))

-- an element of this name and these attributes, with these declarations, whose children are printed already
abbrev pub element_of_parts : List (List ℕ × List ℕ) → List (List ℕ × List ℕ) → Name → List Attribute → List (List ℕ) → List ℕ
element_of_parts prefixes declared name attributes children =
    let written = printed_name prefixes name in
    codes "<" ++ (written ++ (flat_map declaration_bytes declared ++ (flat_map
    (attribute_bytes prefixes) attributes ++ after_attributes_bytes written children)))

module _ (prefixes : List (List ℕ × List ℕ)) where
  abbrev pub child_piece : Child-F (List ℕ) (List ℕ) → List ℕ
  child_piece (Child-F.Element bytes) = bytes
  child_piece (Child-F.Text text) = text_bytes text

  -- of an element below the root, which carries no declarations
  abbrev pub element_piece : Element-F (List ℕ) (List ℕ) → List ℕ
  element_piece e = element_of_parts prefixes [] e.name e.attributes e.children

  abbrev pub child_bytes : Child → List ℕ
  child_bytes = fold-Child (List ℕ) (List ℕ) child_piece element_piece

  abbrev pub element_bytes : Element → List ℕ
  element_bytes = fold-Element (List ℕ) (List ℕ) child_piece element_piece

-- the element as it stands, as a root that declares its own namespaces and then the given ones
abbrev pub root_bytes : List (List ℕ × List ℕ) → Element → List ℕ
root_bytes given e =
    let spaces = namespaces e in
    element_of_parts (name_prefixes spaces) (numbered_prefixes (codes "n") 1 spaces ++ given) e.name e.attributes
    (map (child_bytes (name_prefixes spaces)) e.children)

-- the canonical bytes, with ` xmlns:f1=".."`, ` xmlns:f2=".."` and so on for the given namespaces after the declarations
abbrev pub written_bytes : Element → List (List ℕ) → List ℕ
written_bytes e spaces = root_bytes (numbered_prefixes (codes "f") 1 spaces) (arrange e)

-- the canonical bytes
abbrev pub canonical_bytes : Element → List ℕ
canonical_bytes e = written_bytes e []

-- the declarations that a root carries for prefixes, as they are read
abbrev pub root_declarations : List (List ℕ × List ℕ) → List Declared
root_declarations rows = map (λ row. record { path = []; prefix = row.1; space = row.0 }) rows

-- what these bytes mean where they are read: the element arranged, and the declarations of its root
abbrev pub written_reading : Element → List (List ℕ) → Reading
written_reading e spaces =
    let rows = numbered_prefixes (codes "n") 1 (namespaces (arrange e)) ++ numbered_prefixes (codes "f") 1 spaces in
    record { root = arrange e; declared = root_declarations rows }

-- what the canonical bytes mean
abbrev pub canonical_reading : Element → Reading
canonical_reading e = written_reading e []
