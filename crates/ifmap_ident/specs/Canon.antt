-- Which identifier an element means, and why it means none: IF-MAP binding for SOAP, version 2.2, section 3.2.
use Rattle.std.specs.Prelude.{◌≡◌, ◌≢◌, ℕ, ◌<◌, ◌≤◌, List, [], ◌∷◌, length, codes, IsTrue, Option, Some, Result, Ok, Err, unwrap_or}
use Rattle.ifmap_addresses.specs.IpV4.{IsIpV4}
use Rattle.ifmap_addresses.specs.IpV6.{IsIpV6}
use Rattle.ifmap_addresses.specs.MacAddresses.{IsMacAddress}
use Rattle.ifmap_elem.specs.Building.{bare_name}
use Rattle.ifmap_elem.specs.Fit.{IsFit}
use Rattle.ifmap_elem.specs.declared.elements.Child
use Rattle.ifmap_elem.specs.declared.elements.Element.{Element}
use Rattle.ifmap_ident.specs.declared.errors.IdentError.{IdentError}
use Rattle.ifmap_ident.specs.declared.errors.IdentError.TheVariants.{WrongKind, Invalid, TooLong, NoMemory}
use Rattle.ifmap_ident.specs.declared.identifiers.Identifier.{Identifier}
use Rattle.ifmap_ident.specs.declared.identifiers.Identifier.TheVariants.{AccessRequest, Device, Identity, IpV4, IpV6, MacAddress}
use Rattle.ifmap_ident.specs.declared.kinds.IdentityType.{IdentityType}
use Rattle.ifmap_ident.specs.declared.kinds.IdentityType.TheVariants as types
use Rattle.ifmap_ident.specs.declared.kinds.Kind.{Kind}
use Rattle.ifmap_ident.specs.Identifiers.{identifier_bytes, identifier_kind}
use Rattle.ifmap_ident.specs.IdentityNames.{IsKeptName, name_form}
use Rattle.ifmap_ident.specs.Kinds.{allowed_attributes, identity_type_name, kind_name}
use Rattle.ifmap_ident.specs.Parts.{has_only, is_blank_inside, solid_children, value_of}

-- the administrative domain: an absent one is the empty one
abbrev pub domain_of : Element → List ℕ
domain_of e = unwrap_or (value_of (codes "administrative-domain") e) []

pub record IsAccessRequest (e : Element) (name domain : List ℕ) : Type 0 where
  pub children : IsTrue (is_blank_inside e)
  pub name_is : value_of (codes "name") e ≡ Some name
  pub not_empty : name ≢ []
  pub domain_is : domain ≡ domain_of e

-- an element `name` that holds this text alone
pub record HoldsName (child : Element) (name : List ℕ) : Type 0 where
  pub named : child.name ≡ bare_name (codes "name")
  pub attributes : IsTrue (has_only [] child)
  pub text_is : child.children ≡ Child.Text name ∷ []
  pub not_empty : name ≢ []

-- such an element, and nothing beside it but white space
pub record IsDevice (e : Element) (name : List ℕ) : Type 0 where
  pub child : Element
  pub children : solid_children e ≡ Child.Element child ∷ []
  pub holds : HoldsName child name

-- the type `other` needs a definition that is not empty, and any other type drops it
abbrev pub IsDefinition : IdentityType → Option (List ℕ) → List ℕ → Type 0
IsDefinition types.Other given other = (given ≡ Some other) × (other ≢ [])
IsDefinition _ given other = other ≡ []

pub record IsIdentity (e : Element) (name : List ℕ) (kind : IdentityType) (other domain : List ℕ) : Type 0 where
  pub children : IsTrue (is_blank_inside e)
  pub kind_is : value_of (codes "type") e ≡ Some (identity_type_name kind)
  pub definition : IsDefinition kind (value_of (codes "other-type-definition") e) other
  pub text : List ℕ
  pub text_is : value_of (codes "name") e ≡ Some text
  pub kept : IsKeptName (name_form kind other) text name
  pub not_empty : name ≢ []
  pub domain_is : domain ≡ domain_of e

-- an address of this type, which is that of IPv4 where none is given
pub record IsIpAddress (kind : List ℕ) (IsAddress : List ℕ → List ℕ → Type 0) (e : Element) (value domain : List ℕ) : Type 0 where
  pub children : IsTrue (is_blank_inside e)
  pub kind_is : unwrap_or (value_of (codes "type") e) (codes "IPv4") ≡ kind
  pub text : List ℕ
  pub text_is : value_of (codes "value") e ≡ Some text
  pub means : IsAddress text value
  pub domain_is : domain ≡ domain_of e

pub record IsMacAddressElement (e : Element) (value domain : List ℕ) : Type 0 where
  pub children : IsTrue (is_blank_inside e)
  pub text : List ℕ
  pub text_is : value_of (codes "value") e ≡ Some text
  pub means : IsMacAddress text value
  pub domain_is : domain ≡ domain_of e

-- the element has the parts of this identifier, whatever its own name and its further attributes are
abbrev pub HasParts : Element → Identifier → Type 0
HasParts e (AccessRequest name domain) = IsAccessRequest e name domain
HasParts e (Device name) = IsDevice e name
HasParts e (Identity name kind other domain) = IsIdentity e name kind other domain
HasParts e (IpV4 value domain) = IsIpAddress (codes "IPv4") IsIpV4 e value domain
HasParts e (IpV6 value domain) = IsIpAddress (codes "IPv6") IsIpV6 e value domain
HasParts e (MacAddress value domain) = IsMacAddressElement e value domain

-- the element is of this kind
abbrev pub IsOfKind : Element → Kind → Type 0
IsOfKind e kind = e.name ≡ bare_name (kind_name kind)

-- the element means this identifier, however long that is
pub record IsMeant (e : Element) (i : Identifier) : Type 0 where
  pub named : IsOfKind e (identifier_kind i)
  pub attributes : IsTrue (has_only (allowed_attributes (identifier_kind i)) e)
  pub parts : HasParts e i

-- the most canonical bytes of an identifier
abbrev pub most_bytes : ℕ
most_bytes = 4096

-- the element is this identifier
pub record IsCanon (e : Element) (i : Identifier) : Type 0 where
  pub meant : IsMeant e i
  pub within : length (identifier_bytes i) ≤ most_bytes

-- the element is of none of the kinds
abbrev pub IsWrongKind : Element → Type 0
IsWrongKind e = (kind : Kind) → IsOfKind e kind → ⊥

-- the element is of a kind, and lacks a part or has one that is not of its form
pub record IsInvalid (e : Element) : Type 0 where
  pub kind : Kind
  pub named : IsOfKind e kind
  pub none : (i : Identifier) → IsMeant e i → ⊥

-- the element means an identifier that is too long
pub record IsTooLong (e : Element) : Type 0 where
  pub identifier : Identifier
  pub meant : IsMeant e identifier
  pub above : most_bytes < length (identifier_bytes identifier)

-- the answer to an element: the identifier, or the one cause why there is none, or want of memory
abbrev pub IsAnswer : Element → Result Identifier IdentError → Type 0
IsAnswer e (Ok i) = IsCanon e i
IsAnswer e (Err WrongKind) = IsWrongKind e
IsAnswer e (Err Invalid) = IsInvalid e
IsAnswer e (Err TooLong) = IsTooLong e
IsAnswer e (Err NoMemory) = Unit {0}

-- an identifier that some element is which a document can have
pub record IsIdentifier (i : Identifier) : Type 0 where
  pub element : Element
  pub fit : IsFit element
  pub canon : IsCanon element i
