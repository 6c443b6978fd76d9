-- The address of an identifier that an element gave has its number of parts, each within its range.
use Rattle.std.proofs.Common.{ℕ, List}
use Rattle.ifmap_addresses.specs.IpV4.{IsIpV4}
use Rattle.ifmap_addresses.specs.IpV6Laws.{ip_v6_fits}
use Rattle.ifmap_addresses.specs.Values.{AreBelow}
use Rattle.ifmap_elem.specs.declared.elements.Element.{Element}
use Rattle.ifmap_ident.specs.declared.identifiers.Identifier.{Identifier}
use Rattle.ifmap_ident.specs.declared.identifiers.Identifier.TheVariants.{AccessRequest, Device, Identity, IpV4, IpV6, MacAddress}
use Rattle.ifmap_ident.specs.Canon.{HasParts, IsIdentifier}
use Rattle.ifmap_ident.specs.Written.{IsTyped}

typed_parts : ((text value : List ℕ) → IsIpV4 text value → AreBelow 256 4 value) → (e : Element) (i : Identifier) → HasParts e i → IsTyped i
typed_parts v4_size e (AccessRequest name domain) p = tt
typed_parts v4_size e (Device name) p = tt
typed_parts v4_size e (Identity name kind other domain) p = tt
typed_parts v4_size e (IpV4 value domain) p = v4_size p.text value p.means
typed_parts v4_size e (IpV6 value domain) p = ip_v6_fits p.text value p.means
typed_parts v4_size e (MacAddress value domain) p = record { number = p.means.six; below = p.means.bytes }

pub is_typed : ((text value : List ℕ) → IsIpV4 text value → AreBelow 256 4 value) → (i : Identifier) → IsIdentifier i → IsTyped i
is_typed v4_size i is = typed_parts v4_size is.element i is.canon.meant.parts
