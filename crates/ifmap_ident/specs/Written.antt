-- How identifiers are written in canonical bytes, part by part.
use Rattle.std.specs.Prelude.{ℕ, ◌<◌, List, [], ◌∷◌, ◌++◌, Option, None, Some, codes}
use Rattle.std.specs.List.{flat_map}
use Rattle.std.specs.Str.{byte}
use Rattle.std.specs.declared.cmp.Ordering.{Ordering}
use Rattle.ifmap_addresses.specs.IpV4.{ip_v4_text}
use Rattle.ifmap_addresses.specs.IpV6.{ip_v6_text}
use Rattle.ifmap_addresses.specs.MacAddresses.{mac_address_text}
use Rattle.ifmap_addresses.specs.Values.{AreBelow}
use Rattle.ifmap_elem.specs.Escapes.{text_byte, value_byte}
use Rattle.ifmap_ident.specs.declared.identifiers.Identifier.{Identifier}
use Rattle.ifmap_ident.specs.declared.identifiers.Identifier.TheVariants.{AccessRequest, Device, Identity, IpV4, IpV6, MacAddress}
use Rattle.ifmap_elem.specs.declared.escaping.TextPlace.{TextPlace}
use Rattle.ifmap_elem.specs.declared.escaping.TextPlace.TheVariants.{Value, Content}
use Rattle.ifmap_ident.specs.declared.kinds.Kind.{Kind}
use Rattle.ifmap_ident.specs.Kinds.{identity_type_name}
use Rattle.ifmap_ident.specs.Leading.{FrontsCompare}

-- ---- texts

-- a byte in its place
abbrev pub placed_byte : TextPlace → ℕ → List ℕ
placed_byte Value b = value_byte b
placed_byte Content b = text_byte b

-- the byte that ends a text: the closing quote, or the first of the end tag
abbrev pub end_byte : TextPlace → ℕ
end_byte Value = byte "\""
end_byte Content = byte "<"

-- what is written for a byte; at the end of the text, the byte that ends it
abbrev pub written_byte : TextPlace → Option ℕ → List ℕ
written_byte place None = end_byte place ∷ []
written_byte place (Some b) = placed_byte place b

-- a text as it is written
abbrev pub placed_bytes : TextPlace → List ℕ → List ℕ
placed_bytes place text = flat_map (placed_byte place) text

-- and with the byte that ends it
abbrev pub closed_text : TextPlace → List ℕ → List ℕ
closed_text place text = placed_bytes place text ++ (end_byte place ∷ [])

-- ---- attributes

abbrev pub attribute_written : List ℕ → List ℕ → List ℕ
attribute_written local value = codes " " ++ (local ++ (codes "=\"" ++ closed_text Value value))

-- an attribute that the empty value leaves out
abbrev pub optional_written : List ℕ → List ℕ → List ℕ
optional_written local [] = []
optional_written local (b ∷ bs) = attribute_written local (b ∷ bs)

-- attributes of one name with these two values compare like this, each before one whose name has a greater first letter
abbrev pub OptionalsLead : Ordering → List ℕ → List ℕ → Type 0
OptionalsLead order one other =
    (first letter : ℕ) (local : List ℕ) → first < letter
    → FrontsCompare order (optional_written (first ∷ local) one ++ (codes " " ++ (letter ∷ [])))
    (optional_written (first ∷ local) other ++ (codes " " ++ (letter ∷ [])))

-- ---- identifiers

abbrev pub domain_written : List ℕ → List ℕ
domain_written domain = optional_written (codes "administrative-domain") domain

abbrev pub identifier_written : Identifier → List ℕ
identifier_written (AccessRequest name domain) =
    codes "<access-request" ++ (domain_written domain ++ (attribute_written (codes "name") name ++ codes "/>"))
identifier_written (Device name) = codes "<device><name>" ++ (closed_text Content name ++ codes "/name></device>")
identifier_written (Identity name kind other domain) =
    codes "<identity" ++ (domain_written domain ++ (attribute_written (codes "name") name
    ++ (optional_written (codes "other-type-definition") other ++ (attribute_written (codes "type") (identity_type_name kind)
    ++ codes "/>"))))
identifier_written (IpV4 value domain) =
    codes "<ip-address" ++ (domain_written domain ++ (attribute_written (codes "type") (codes "IPv4")
    ++ (attribute_written (codes "value") (ip_v4_text value) ++ codes "/>")))
identifier_written (IpV6 value domain) =
    codes "<ip-address" ++ (domain_written domain ++ (attribute_written (codes "type") (codes "IPv6")
    ++ (attribute_written (codes "value") (ip_v6_text value) ++ codes "/>")))
identifier_written (MacAddress value domain) =
    codes "<mac-address" ++ (domain_written domain ++ (attribute_written (codes "value") (mac_address_text value) ++ codes "/>"))

-- ---- kinds and types

-- the place of a kind among the names of the elements
abbrev pub kind_rank : Kind → ℕ
kind_rank Kind.AccessRequest = 0
kind_rank Kind.Device = 1
kind_rank Kind.Identity = 2
kind_rank Kind.IpAddress = 3
kind_rank Kind.MacAddress = 4

-- an address has its number of parts, each within its range
abbrev pub IsTyped : Identifier → Type 0
IsTyped (AccessRequest name domain) = Unit {0}
IsTyped (Device name) = Unit {0}
IsTyped (Identity name kind other domain) = Unit {0}
IsTyped (IpV4 value domain) = AreBelow 256 4 value
IsTyped (IpV6 value domain) = AreBelow 65536 8 value
IsTyped (MacAddress value domain) = AreBelow 256 6 value
