-- What the server says of a published element: who published it, and when (IF-MAP binding for SOAP, version 2.2:
-- `ifmap-publisher-id` and `ifmap-timestamp`, operational attributes of metadata).
use Rattle.std.specs.Prelude.{ℕ, List, [], ◌∷◌, ◌++◌, Bool, not, ◌||◌, codes}
use Rattle.std.specs.List.{filter}
use Rattle.ifmap_elem.specs.Arranged.{sort_attributes}
use Rattle.ifmap_elem.specs.Building.{bare_attribute, is_bare}
use Rattle.ifmap_elem.specs.declared.elements.Attribute.{Attribute}
use Rattle.ifmap_elem.specs.declared.elements.Element.{Element}
use Rattle.ifmap_io.specs.Calendar.{moment_text}

-- the attribute is for the server to set
abbrev pub is_stamp : Attribute → Bool
is_stamp a = is_bare (codes "ifmap-publisher-id") a.name || is_bare (codes "ifmap-timestamp") a.name

-- the attributes that are not
abbrev pub without_stamps : List Attribute → List Attribute
without_stamps attributes = filter (λ a. not (is_stamp a)) attributes

-- an element without what the server sets: its content
abbrev pub content_of : Element → Element
content_of e = record { name = e.name; attributes = without_stamps e.attributes; children = e.children }

-- what the server sets: the publisher, and a text for the moment of publishing
abbrev pub stamps_of : List ℕ → List ℕ → List Attribute
stamps_of publisher text = bare_attribute (codes "ifmap-publisher-id") publisher ∷ bare_attribute (codes "ifmap-timestamp") text ∷ []

abbrev pub stamps : List ℕ → ℕ → List Attribute
stamps publisher moment = stamps_of publisher (moment_text moment)

-- these attributes and the stamps, in order
abbrev pub with_stamps : List ℕ → ℕ → List Attribute → List Attribute
with_stamps publisher moment attributes = sort_attributes (attributes ++ stamps publisher moment)

-- an element as this publisher's at that moment, whatever it says of that itself
abbrev pub stamp : List ℕ → ℕ → Element → Element
stamp publisher moment e = record {
  name = e.name;
  attributes = with_stamps publisher moment (without_stamps e.attributes);
  children = e.children;
}
