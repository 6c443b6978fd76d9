-- The canonical bytes of elements in no namespace, and of identifiers, part by part.
use Rattle.std.proofs.Common.{◌≡◌, ℕ, List, [], ◌∷◌, ◌++◌, map, codes, refl, ap, ◌∙◌, append_assoc}
use Rattle.std.proofs.lemmas.List.{append-nil}
use Rattle.std.specs.List.{filter, flat_map}
use Rattle.ifmap_addresses.specs.IpV4.{ip_v4_text}
use Rattle.ifmap_addresses.specs.IpV6.{ip_v6_text}
use Rattle.ifmap_addresses.specs.MacAddresses.{mac_address_text}
use Rattle.ifmap_elem.specs.declared.elements.Attribute.{Attribute}
use Rattle.ifmap_elem.specs.declared.elements.Child
use Rattle.ifmap_elem.specs.declared.elements.Element.{Element}
use Rattle.ifmap_elem.specs.Arranged.{arrange, arrange_child_of, arrange_element_of, sort_attributes}
use Rattle.ifmap_elem.specs.Building.{bare_attribute, bare_element, bare_name}
use Rattle.ifmap_elem.specs.Canonical.{attribute_bytes, canonical_bytes, child_bytes, child_piece, element_of_parts, element_piece, root_bytes}
use Rattle.ifmap_elem.specs.Escapes.{text_bytes}
use Rattle.ifmap_elem.specs.Folds.{at_child_element, at_child_text, at_element}
use Rattle.ifmap_elem.specs.Namespaces.{child_spaces, declared_among, element_spaces, is_declared, name_prefixes, namespaces, once_each, numbered_prefixes, spaces_of}
use Rattle.ifmap_ident.specs.Identifiers.{attribute_unless_empty, identifier_bytes}
use Rattle.ifmap_ident.specs.Kinds.{identity_type_name}
use Rattle.ifmap_ident.specs.Written.{attribute_written, domain_written, identifier_written}
use Rattle.ifmap_ident.specs.declared.identifiers.Identifier.{Identifier}
use Rattle.ifmap_ident.specs.declared.identifiers.Identifier.TheVariants.{AccessRequest, Device, Identity, IpV4, IpV6, MacAddress}
use Rattle.ifmap_ident.specs.declared.kinds.IdentityType.{IdentityType}
use Rattle.ifmap_elem.specs.Chars.{less_than}

-- an attribute by its local name and its value, and how it is printed
abbrev attribute_of : List ℕ × List ℕ → Attribute
attribute_of part = bare_attribute part.0 part.1

abbrev part_written : List ℕ × List ℕ → List ℕ
part_written part = attribute_written part.0 part.1

no_space : (parts : List (List ℕ × List ℕ)) → filter is_declared (map (λ a. a.name.space) (map attribute_of parts) ++ []) ≡ []
no_space [] = refl
no_space (part ∷ parts) = no_space parts

no_namespaces : (local : List ℕ) (parts : List (List ℕ × List ℕ)) → namespaces (bare_element local (map attribute_of parts) []) ≡ []
no_namespaces local parts =
    ap declared_among (at_element (List (List ℕ)) (List (List ℕ)) child_spaces element_spaces (bare_element local
    (map attribute_of parts) []))
    ∙ ap once_each (no_space parts)

parts_are : (parts : List (List ℕ × List ℕ)) → flat_map (attribute_bytes (name_prefixes [])) (map attribute_of parts)
    ≡ flat_map part_written parts
parts_are [] = refl
parts_are (part ∷ parts) = ap (λ rest. part_written part ++ rest) (parts_are parts)

-- an element without children prints as a tag with its attributes in order
prints_as_tag : (local : List ℕ) (attributes : List Attribute) (parts : List (List ℕ × List ℕ))
    → sort_attributes attributes ≡ map attribute_of parts
    → canonical_bytes (bare_element local attributes []) ≡ codes "<" ++ (local ++ (flat_map part_written parts ++ codes "/>"))
prints_as_tag local attributes parts e =
    ap (root_bytes []) (at_element Child.Child Element arrange_child_of arrange_element_of (bare_element local attributes [])
    ∙ ap (λ sorted. bare_element local sorted []) e)
    ∙ ap (λ spaces. element_of_parts (name_prefixes spaces) (numbered_prefixes (codes "n") 1 spaces ++ []) (bare_name local)
    (map attribute_of parts) [])
    (no_namespaces local parts)
    ∙ ap (λ text. codes "<" ++ (local ++ (text ++ codes "/>"))) (parts_are parts)

-- parts in a row, before what ends the tag
two_parts : (a b : List ℕ) → (a ++ (b ++ [])) ++ codes "/>" ≡ a ++ (b ++ codes "/>")
two_parts a b = simp (append_assoc, append-nil)

three_parts : (a b c : List ℕ) → (a ++ (b ++ (c ++ []))) ++ codes "/>" ≡ a ++ (b ++ (c ++ codes "/>"))
three_parts a b c = simp (append_assoc, append-nil)

four_parts : (a b c d : List ℕ) → (a ++ (b ++ (c ++ (d ++ [])))) ++ codes "/>" ≡ a ++ (b ++ (c ++ (d ++ codes "/>")))
four_parts a b c d = simp (append_assoc, append-nil)

one_part : (a : List ℕ) → (a ++ []) ++ codes "/>" ≡ a ++ codes "/>"
one_part a = simp append-nil

abbrev domain_name : List ℕ
domain_name = codes "administrative-domain"

abbrev other_name : List ℕ
other_name = codes "other-type-definition"

access_request_printed : (name domain : List ℕ) → identifier_bytes (AccessRequest name domain) ≡ identifier_written
    (AccessRequest name domain)
unfolding identifier_bytes
access_request_printed name [] =
    prints_as_tag (codes "access-request") _ ((codes "name", name) ∷ []) refl
    ∙ ap (λ t. codes "<access-request" ++ t) (one_part (attribute_written (codes "name") name))
access_request_printed name (b ∷ d) =
    prints_as_tag (codes "access-request") _ ((domain_name, b ∷ d) ∷ ((codes "name", name) ∷ [])) refl
    ∙ ap (λ t. codes "<access-request" ++ t) (two_parts (attribute_written domain_name (b ∷ d)) (attribute_written (codes "name") name))

-- an address of some type, and one without
typed_address_printed : (type value domain : List ℕ) → canonical_bytes (bare_element (codes "ip-address")
    (attribute_unless_empty domain_name domain ++ (bare_attribute (codes "type") type ∷ (bare_attribute (codes "value") value ∷ []))) [])
    ≡ codes "<ip-address" ++ (domain_written domain ++ (attribute_written (codes "type") type ++ (attribute_written
    (codes "value") value ++ codes "/>")))
typed_address_printed type value [] =
    prints_as_tag (codes "ip-address") _ ((codes "type", type) ∷ ((codes "value", value) ∷ [])) refl
    ∙ ap (λ t. codes "<ip-address" ++ t) (two_parts (attribute_written (codes "type") type) (attribute_written (codes "value") value))
typed_address_printed type value (b ∷ d) =
    prints_as_tag (codes "ip-address") _ ((domain_name, b ∷ d) ∷ ((codes "type", type) ∷ ((codes "value", value) ∷ []))) refl
    ∙ ap (λ t. codes "<ip-address" ++ t) (three_parts (attribute_written domain_name (b ∷ d)) (attribute_written (codes "type") type)
    (attribute_written (codes "value") value))

mac_address_printed : (value domain : List ℕ) → identifier_bytes (MacAddress value domain) ≡ identifier_written (MacAddress value domain)
unfolding identifier_bytes
mac_address_printed value [] =
    prints_as_tag (codes "mac-address") _ ((codes "value", mac_address_text value) ∷ []) refl
    ∙ ap (λ t. codes "<mac-address" ++ t) (one_part (attribute_written (codes "value") (mac_address_text value)))
mac_address_printed value (b ∷ d) =
    prints_as_tag (codes "mac-address") _ ((domain_name, b ∷ d) ∷ ((codes "value", mac_address_text value) ∷ [])) refl
    ∙ ap (λ t. codes "<mac-address" ++ t) (two_parts (attribute_written domain_name (b ∷ d))
    (attribute_written (codes "value") (mac_address_text value)))

identity_printed : (name : List ℕ) (kind : IdentityType) (other domain : List ℕ)
    → identifier_bytes (Identity name kind other domain) ≡ identifier_written (Identity name kind other domain)
unfolding identifier_bytes
identity_printed name kind [] [] =
    prints_as_tag (codes "identity") _ ((codes "name", name) ∷ ((codes "type", identity_type_name kind) ∷ [])) refl
    ∙ ap (λ t. codes "<identity" ++ t) (two_parts (attribute_written (codes "name") name)
    (attribute_written (codes "type") (identity_type_name kind)))
identity_printed name kind [] (b ∷ d) =
    prints_as_tag (codes "identity") _ ((domain_name, b ∷ d) ∷ ((codes "name", name) ∷ ((codes "type", identity_type_name kind) ∷ []))) refl
    ∙ ap (λ t. codes "<identity" ++ t) (three_parts (attribute_written domain_name (b ∷ d)) (attribute_written (codes "name") name)
    (attribute_written (codes "type") (identity_type_name kind)))
identity_printed name kind (o ∷ os) [] =
    prints_as_tag (codes "identity") _ ((codes "name", name) ∷ ((other_name, o ∷ os) ∷ ((codes "type", identity_type_name kind) ∷ []))) refl
    ∙ ap (λ t. codes "<identity" ++ t) (three_parts (attribute_written (codes "name") name) (attribute_written other_name (o ∷ os))
    (attribute_written (codes "type") (identity_type_name kind)))
identity_printed name kind (o ∷ os) (b ∷ d) =
    prints_as_tag (codes "identity") _
    ((domain_name, b ∷ d) ∷ ((codes "name", name) ∷ ((other_name, o ∷ os) ∷ ((codes "type", identity_type_name kind) ∷ [])))) refl
    ∙ ap (λ t. codes "<identity" ++ t) (four_parts (attribute_written domain_name (b ∷ d)) (attribute_written (codes "name") name)
    (attribute_written other_name (o ∷ os)) (attribute_written (codes "type") (identity_type_name kind)))

-- a name as text in an element in another
abbrev pub name_inside : List ℕ → Element
name_inside name = bare_element (codes "name") [] (Child.Text name ∷ [])

abbrev pub device_of : List ℕ → Element
device_of name = bare_element (codes "device") [] (Child.Element (name_inside name) ∷ [])

abbrev Spaces : Type 0
Spaces = List (List ℕ)

arranged_inner : (name : List ℕ) → arrange (name_inside name) ≡ name_inside name
arranged_inner name =
    at_element Child.Child Element arrange_child_of arrange_element_of (name_inside name)
    ∙ ap (λ child. bare_element (codes "name") [] (child ∷ [])) (at_child_text Child.Child Element arrange_child_of arrange_element_of name)

pub arranged_outer : (name : List ℕ) → arrange (device_of name) ≡ device_of name
arranged_outer name =
    at_element Child.Child Element arrange_child_of arrange_element_of (device_of name)
    ∙ ap (λ child. bare_element (codes "device") [] (child ∷ []))
    (at_child_element Child.Child Element arrange_child_of arrange_element_of (name_inside name) ∙ ap Child.Element (arranged_inner name))

inner_spaces : (name : List ℕ) → spaces_of (name_inside name) ≡ [] ∷ []
inner_spaces name =
    at_element Spaces Spaces child_spaces element_spaces (name_inside name)
    ∙ ap (λ spaces. [] ∷ (spaces ++ [])) (at_child_text Spaces Spaces child_spaces element_spaces name)

outer_spaces : (name : List ℕ) → namespaces (device_of name) ≡ []
outer_spaces name =
    ap declared_among (at_element Spaces Spaces child_spaces element_spaces (device_of name)
    ∙ ap (λ spaces. [] ∷ (spaces ++ []))
    (at_child_element Spaces Spaces child_spaces element_spaces (name_inside name) ∙ inner_spaces name))

abbrev no_prefixes : List (List ℕ × List ℕ)
no_prefixes = name_prefixes []

inner_bytes : (name : List ℕ) → child_bytes no_prefixes (Child.Element (name_inside name)) ≡ codes "<name>" ++ ((text_bytes name ++ [])
    ++ codes "</name>")
inner_bytes name =
    at_child_element (List ℕ) (List ℕ) (child_piece no_prefixes) (element_piece no_prefixes) (name_inside name)
    ∙ at_element (List ℕ) (List ℕ) (child_piece no_prefixes) (element_piece no_prefixes) (name_inside name)
    ∙ ap (λ text. codes "<name>" ++ ((text ++ []) ++ codes "</name>"))
    (at_child_text (List ℕ) (List ℕ) (child_piece no_prefixes) (element_piece no_prefixes) name)

device_end : (text : List ℕ) → codes "<device>" ++ (((codes "<name>" ++ ((text ++ []) ++ codes "</name>")) ++ []) ++ codes "</device>")
    ≡ codes "<device><name>" ++ ((text ++ (less_than ∷ [])) ++ codes "/name></device>")
device_end text = simp (append_assoc, append-nil)

device_printed : (name : List ℕ) → identifier_bytes (Device name) ≡ identifier_written (Device name)
unfolding identifier_bytes
device_printed name =
    ap (root_bytes []) (arranged_outer name)
    ∙ ap (λ spaces. element_of_parts (name_prefixes spaces) (numbered_prefixes (codes "n") 1 spaces ++ []) (bare_name (codes "device")) []
    (map (child_bytes (name_prefixes spaces)) (Child.Element (name_inside name) ∷ []))) (outer_spaces name)
    ∙ ap (λ child. codes "<device>" ++ ((child ++ []) ++ codes "</device>")) (inner_bytes name)
    ∙ device_end (text_bytes name)

-- an identifier, part by part
pub prints_as : (i : Identifier) → identifier_bytes i ≡ identifier_written i
unfolding identifier_bytes
prints_as (AccessRequest name domain) = access_request_printed name domain
prints_as (Device name) = device_printed name
prints_as (Identity name kind other domain) = identity_printed name kind other domain
prints_as (IpV4 value domain) = typed_address_printed (codes "IPv4") (ip_v4_text value) domain
prints_as (IpV6 value domain) = typed_address_printed (codes "IPv6") (ip_v6_text value) domain
prints_as (MacAddress value domain) = mac_address_printed value domain
