-- Envelopes of SOAP 1.2 (part 1, section 5) round one element.
use Rattle.std.specs.Prelude.{◌≡◌, ◌⊎◌, ℕ, ◌≤◌, Bool, false, not, ◌&&◌, Some, IsTrue, List, [], ◌∷◌, ◌++◌, codes, length}
use Rattle.std.specs.List.{list_all, prefix_len, slice_get}
use Rattle.ifmap_lemmas.specs.Deciding.{Decided}
use Rattle.ifmap_elem.specs.Nesting.{nesting}
use Rattle.ifmap_elem.specs.Spells.{Spells}
use Rattle.ifmap_elem.specs.declared.elements.Child as the
use Rattle.ifmap_elem.specs.declared.elements.Child.TheOpen.{Child-F}
use Rattle.ifmap_elem.specs.declared.elements.Element.{Element}
use Rattle.ifmap_elem.specs.declared.elements.Name.{Name}
use Rattle.ifmap_elem.specs.declared.readings.Reading.{Reading}
use Rattle.ifmap_elem.specs.WhiteSpace.{is_blank_part}
use Rattle.ifmap_elem.specs.Building.{is_name}
use Rattle.ifmap_forms.specs.Tables.{Part, element_parts}
use Rattle.ifmap_envelopes.specs.Spaces.{envelope_space}

abbrev pub envelope_name : List ℕ → Name
envelope_name local = record { space = envelope_space; local = local }

-- the part with that index is this element, and the others are white space
pub record IsOnlyElement (parts : List Part) (index : ℕ) (e : Element) : Type 0 where
  pub before : List Part
  pub after : List Part
  pub parts_are : parts ≡ before ++ (Child-F.Element e ∷ after)
  pub blank_before : IsTrue (list_all is_blank_part before)
  pub blank_after : IsTrue (list_all is_blank_part after)
  pub index_is : index ≡ length before

-- white space, or a header in it, whatever it holds
abbrev pub MayHoldHeader : List Part → Type 0
MayHoldHeader parts =
    IsTrue (list_all is_blank_part parts)
    ⊎ ((index : ℕ) × (header : Element) × (header.name ≡ envelope_name (codes "Header")) × IsOnlyElement parts index header)

-- the part with that index is this body, with a header or none before it and white space after it
pub record IsBodyAt (parts : List Part) (index : ℕ) (body : Element) : Type 0 where
  pub before : List Part
  pub after : List Part
  pub parts_are : parts ≡ before ++ (Child-F.Element body ∷ after)
  pub header : MayHoldHeader before
  pub blank : IsTrue (list_all is_blank_part after)
  pub named : body.name ≡ envelope_name (codes "Body")
  pub index_is : index ≡ length before

-- the element is an envelope of the element at this path: a header or none, and then a body that holds it alone; attributes are passed over
pub record IsEnvelope (root : Element) (path : List ℕ) (inner : Element) : Type 0 where
  pub named : root.name ≡ envelope_name (codes "Envelope")
  pub place : ℕ
  pub body : Element
  pub body_at : IsBodyAt (element_parts root) place body
  pub index : ℕ
  pub alone : IsOnlyElement (element_parts body) index inner
  pub path_is : path ≡ place ∷ (index ∷ [])

-- the bytes spell an envelope of so many levels at most, of the element at this path
pub record SpellsEnvelope (levels : ℕ) (bytes : List ℕ) (reading : Reading) (path : List ℕ) (inner : Element) : Type 0 where
  pub spelled : Spells bytes reading
  pub shallow : nesting reading.root ≤ levels
  pub envelope : IsEnvelope reading.root path inner

-- ---- how an envelope is made

-- an element of this name that holds one other and nothing else
abbrev pub element_around : Name → Element → Element
element_around name inner = record { name = name; attributes = []; children = the.Element inner ∷ [] }

-- the envelope of an element
abbrev pub in_envelope : Element → Element
in_envelope inner = element_around (envelope_name (codes "Envelope")) (element_around (envelope_name (codes "Body")) inner)

-- ---- how an envelope is found

-- the element stands there among the parts
abbrev pub IsPartAt : List Part → ℕ → Element → Type 0
IsPartAt parts index e = slice_get parts index ≡ Some (Child-F.Element e)

abbrev pub is_solid_part : Part → Bool
is_solid_part part = not (is_blank_part part)

-- the part is an element of that name of envelopes
abbrev pub is_part_named : List ℕ → Part → Bool
is_part_named local (Child-F.Element e) = is_name e.name (envelope_name local)
is_part_named local (Child-F.Text text) = false

-- the first part passes, and the others are white space
abbrev pub is_last_part : (Part → Bool) → List Part → Bool
is_last_part p [] = false
is_last_part p (part ∷ parts) = p part && list_all is_blank_part parts

-- the first part passes
abbrev pub is_first : (Part → Bool) → List Part → Bool
is_first p [] = false
is_first p (part ∷ parts) = p part

-- how many parts of white space stand before the others
abbrev pub blank_front : List Part → ℕ
blank_front parts = prefix_len is_blank_part parts

-- they spell none
abbrev pub SpellsNone : ℕ → List ℕ → Type 0
SpellsNone levels bytes = (reading : Reading) (path : List ℕ) (inner : Element) → SpellsEnvelope levels bytes reading path inner → ⊥

-- an element is an envelope of one element at one path at most
abbrev pub OneEnvelope : Type 0
OneEnvelope =
    (root e f : Element) (path route : List ℕ) → IsEnvelope root path e → IsEnvelope root route f → (path ≡ route) × (e ≡ f)

-- an element is an envelope of some element at some path, or of none
abbrev pub EnvelopeOrNone : Type 0
EnvelopeOrNone = (root : Element) → Decided ((path : List ℕ) × (inner : Element) × IsEnvelope root path inner)
