-- Identifiers as elements, and their order: IF-MAP binding for SOAP, version 2.2, section 3.2.
use Rattle.std.specs.Prelude.{ℕ, Bool, List, [], ◌∷◌, ◌++◌, ◌==◌, codes}
use Rattle.std.specs.Cmp.Lexicographic.{pointwise, slice_cmp}
use Rattle.std.specs.Ordering.{nat_cmp, on}
use Rattle.std.specs.declared.cmp.Ordering.{Ordering}
use Rattle.ifmap_addresses.specs.IpV4.{ip_v4_text}
use Rattle.ifmap_addresses.specs.IpV6.{ip_v6_text}
use Rattle.ifmap_addresses.specs.MacAddresses.{mac_address_text}
use Rattle.ifmap_elem.specs.declared.elements.Attribute.{Attribute}
use Rattle.ifmap_elem.specs.declared.elements.Child
use Rattle.ifmap_elem.specs.declared.elements.Element.{Element}
use Rattle.ifmap_elem.specs.Building.{bare_attribute, bare_element}
use Rattle.ifmap_elem.specs.Canonical.{canonical_bytes}
use Rattle.ifmap_ident.specs.declared.identifiers.Identifier.{Identifier}
use Rattle.ifmap_ident.specs.declared.identifiers.Identifier.TheVariants.{AccessRequest, Device, Identity, IpV4, IpV6, MacAddress}
use Rattle.ifmap_ident.specs.declared.kinds.Kind.{Kind}
use Rattle.ifmap_ident.specs.Kinds.{identity_type_name}

-- an attribute that an empty value leaves out
abbrev pub attribute_unless_empty : List ℕ → List ℕ → List Attribute
attribute_unless_empty local [] = []
attribute_unless_empty local (b ∷ bs) = bare_attribute local (b ∷ bs) ∷ []

-- the attribute of an administrative domain; none of the empty one
abbrev pub domain_attributes : List ℕ → List Attribute
domain_attributes domain = attribute_unless_empty (codes "administrative-domain") domain

-- an identifier as an element, its attributes in canonical order
abbrev pub identifier_element : Identifier → Element
identifier_element (AccessRequest name domain) =
    bare_element (codes "access-request") (domain_attributes domain ++ bare_attribute (codes "name") name ∷ []) []
identifier_element (Device name) =
    bare_element (codes "device") [] (Child.Element (bare_element (codes "name") [] (Child.Text name ∷ [])) ∷ [])
identifier_element (Identity name kind other domain) =
    bare_element (codes "identity") (domain_attributes domain ++ (bare_attribute (codes "name") name
    ∷ (attribute_unless_empty (codes "other-type-definition") other
    ++ bare_attribute (codes "type") (identity_type_name kind) ∷ []))) []
identifier_element (IpV4 value domain) =
    bare_element (codes "ip-address") (domain_attributes domain ++ (bare_attribute (codes "type") (codes "IPv4")
    ∷ (bare_attribute (codes "value") (ip_v4_text value) ∷ []))) []
identifier_element (IpV6 value domain) =
    bare_element (codes "ip-address") (domain_attributes domain ++ (bare_attribute (codes "type") (codes "IPv6")
    ∷ (bare_attribute (codes "value") (ip_v6_text value) ∷ []))) []
identifier_element (MacAddress value domain) =
    bare_element (codes "mac-address") (domain_attributes domain ++ bare_attribute (codes "value") (mac_address_text value) ∷ []) []

-- the kind of an identifier
abbrev pub identifier_kind : Identifier → Kind
identifier_kind (AccessRequest name domain) = Kind.AccessRequest
identifier_kind (Device name) = Kind.Device
identifier_kind (Identity name kind other domain) = Kind.Identity
identifier_kind (IpV4 value domain) = Kind.IpAddress
identifier_kind (IpV6 value domain) = Kind.IpAddress
identifier_kind (MacAddress value domain) = Kind.MacAddress

-- the canonical bytes of an identifier
unfoldable pub identifier_bytes : Identifier → List ℕ
identifier_bytes i = canonical_bytes (identifier_element i)

-- whether two identifiers are equal: by their canonical bytes
abbrev pub same_identifier : Identifier → Identifier → Bool
same_identifier = on identifier_bytes (pointwise ◌==◌)

-- the order of identifiers: by their canonical bytes
abbrev pub identifier_order : Identifier → Identifier → Ordering
identifier_order = on identifier_bytes (slice_cmp nat_cmp)
