-- An element that has the parts of no identifier of one variant has those of no identifier of its kind.
use Rattle.std.proofs.Common.{◌≡◌, ℕ, ◌<◌, ◌≤◌, ◌-◌, ◌^◌, min, Bool, true, false, List, Option, None, Some, IsTrue, Result, Ok, Err, codes, length, sym, ◌∙◌, ap, subst, arith}
use Rattle.std.specs.Str.{bytes_eq}
use Rattle.std.proofs.lemmas.Bool.{both_ways}
use Rattle.ifmap_addresses.specs.IpV4.{IsIpV4}
use Rattle.ifmap_addresses.specs.IpV6.{IsIpV6}
use Rattle.ifmap_elem.specs.Building.{bare_name}
use Rattle.ifmap_elem.specs.declared.elements.Element.{Element}
use Rattle.ifmap_ident.specs.declared.errors.IdentError.{IdentError}
use Rattle.ifmap_ident.specs.declared.errors.IdentError.TheVariants.{WrongKind, Invalid, TooLong, NoMemory}
use Rattle.ifmap_ident.specs.declared.identifiers.Identifier.{Identifier}
use Rattle.ifmap_ident.specs.declared.identifiers.Identifier.TheVariants.{AccessRequest, Device, Identity, IpV4, IpV6, MacAddress}
use Rattle.ifmap_ident.specs.declared.kinds.IdentityType.{IdentityType}
use Rattle.ifmap_ident.specs.declared.kinds.Kind.{Kind}
use Rattle.ifmap_ident.specs.declared.kinds.Kind.TheVariants as kinds
use Rattle.ifmap_ident.specs.Canon.{HasParts, IsAccessRequest, IsAnswer, IsDevice, IsIdentity, IsInvalid, IsIpAddress, IsMacAddressElement, IsMeant, IsOfKind, most_bytes}
use Rattle.ifmap_ident.specs.Identifiers.{identifier_bytes, identifier_kind}
use Rattle.ifmap_ident.specs.Kinds.{allowed_attributes, kind_name}
use Rattle.ifmap_ident.specs.Meaning.{ArePartsOf, IsMeaning}
use Rattle.ifmap_ident.specs.Parts.{has_only}
use Rattle.ifmap_ident.proofs.KindLaws.{kinds_are_one}

pub no_access_request : (e : Element) → ((name domain : List ℕ) → IsAccessRequest e name domain → ⊥) → (i : Identifier)
    → identifier_kind i ≡ kinds.AccessRequest → HasParts e i → ⊥
no_access_request e none (AccessRequest name domain) k parts = none name domain parts
no_access_request e none (Device name) k parts = cc
no_access_request e none (Identity name kind other domain) k parts = cc
no_access_request e none (IpV4 value domain) k parts = cc
no_access_request e none (IpV6 value domain) k parts = cc
no_access_request e none (MacAddress value domain) k parts = cc

pub no_device : (e : Element) → ((name : List ℕ) → IsDevice e name → ⊥) → (i : Identifier) → identifier_kind i ≡ kinds.Device
    → HasParts e i → ⊥
no_device e none (AccessRequest name domain) k parts = cc
no_device e none (Device name) k parts = none name parts
no_device e none (Identity name kind other domain) k parts = cc
no_device e none (IpV4 value domain) k parts = cc
no_device e none (IpV6 value domain) k parts = cc
no_device e none (MacAddress value domain) k parts = cc

pub no_identity : (e : Element)
    → ((name : List ℕ) (kind : IdentityType) (other domain : List ℕ) → IsIdentity e name kind other domain → ⊥)
    → (i : Identifier) → identifier_kind i ≡ kinds.Identity → HasParts e i → ⊥
no_identity e none (AccessRequest name domain) k parts = cc
no_identity e none (Device name) k parts = cc
no_identity e none (Identity name kind other domain) k parts = none name kind other domain parts
no_identity e none (IpV4 value domain) k parts = cc
no_identity e none (IpV6 value domain) k parts = cc
no_identity e none (MacAddress value domain) k parts = cc

pub no_ip_address : (e : Element) → ((value domain : List ℕ) → IsIpAddress (codes "IPv4") IsIpV4 e value domain → ⊥)
    → ((value domain : List ℕ) → IsIpAddress (codes "IPv6") IsIpV6 e value domain → ⊥) → (i : Identifier)
    → identifier_kind i ≡ kinds.IpAddress → HasParts e i → ⊥
no_ip_address e none none_either (AccessRequest name domain) k parts = cc
no_ip_address e none none_either (Device name) k parts = cc
no_ip_address e none none_either (Identity name kind other domain) k parts = cc
no_ip_address e none none_either (IpV4 value domain) k parts = none value domain parts
no_ip_address e none none_either (IpV6 value domain) k parts = none_either value domain parts
no_ip_address e none none_either (MacAddress value domain) k parts = cc

pub no_mac_address : (e : Element) → ((value domain : List ℕ) → IsMacAddressElement e value domain → ⊥) → (i : Identifier)
    → identifier_kind i ≡ kinds.MacAddress → HasParts e i → ⊥
no_mac_address e none (AccessRequest name domain) k parts = cc
no_mac_address e none (Device name) k parts = cc
no_mac_address e none (Identity name kind other domain) k parts = cc
no_mac_address e none (IpV4 value domain) k parts = cc
no_mac_address e none (IpV6 value domain) k parts = cc
no_mac_address e none (MacAddress value domain) k parts = none value domain parts

-- the two versions of addresses are written otherwise
pub versions_differ : codes "IPv4" ≡ codes "IPv6" → ⊥
versions_differ e =
    let same : bytes_eq (codes "IPv4") (codes "IPv4") ≡ bytes_eq (codes "IPv4") (codes "IPv6") = ap (bytes_eq (codes "IPv4")) e in
    let differ : true ≡ false = same in cc

-- ---- the kind and the attributes, and then the parts

pub kind_of_meant : (e : Element) (kind : Kind) (i : Identifier) → IsOfKind e kind → IsMeant e i → identifier_kind i ≡ kind
kind_of_meant e kind i named meant = kinds_are_one (identifier_kind i) kind (sym meant.named ∙ named)

pub meaning_of_parts : (e : Element) (kind : Kind) (r : Result Identifier IdentError) → IsOfKind e kind
    → IsTrue (has_only (allowed_attributes kind) e) → ArePartsOf kind e r → IsMeaning e r
meaning_of_parts e kind (Ok i) named only parts = record {
  named = named ∙ ap (λ k. bare_name (kind_name k)) (sym parts.0);
  attributes = subst (λ k. IsTrue (has_only (allowed_attributes k) e)) (sym parts.0) only;
  parts = parts.1;
}
meaning_of_parts e kind (Err WrongKind) named only parts = absurd parts
meaning_of_parts e kind (Err Invalid) named only parts = record {
  kind = kind;
  named = named;
  none = λ i meant. parts i (kind_of_meant e kind i named meant) meant.parts;
}
meaning_of_parts e kind (Err TooLong) named only parts = absurd parts
meaning_of_parts e kind (Err NoMemory) named only parts = tt

pub unknown_attribute : (e : Element) (kind : Kind) → IsOfKind e kind → has_only (allowed_attributes kind) e ≡ false → IsInvalid e
unknown_attribute e kind named only = record {
  kind = kind;
  named = named;
  none = λ i meant. both_ways (has_only (allowed_attributes kind) e) only
      (subst (λ k. IsTrue (has_only (allowed_attributes k) e)) (kind_of_meant e kind i named meant) meant.attributes);
}

-- what gives no meaning is an answer
pub refused_meaning : (e : Element) (error : IdentError) → IsMeaning e (Err error) → IsAnswer e (Err error)
refused_meaning e WrongKind m = m
refused_meaning e Invalid m = m
refused_meaning e TooLong m = absurd m
refused_meaning e NoMemory m = m

-- the size of what is meant tells whether it is an answer
pub long_answer : (e : Element) (i : Identifier) (size : ℕ) → IsMeant e i → size ≡ min (length (identifier_bytes i)) (2 ^ 64 - 1)
    → most_bytes < size → IsAnswer e (Err TooLong)
long_answer e i size meant is above = record {
  identifier = i;
  meant = meant;
  above = let n = length (identifier_bytes i) in let same : size ≡ min n (2 ^ 64 - 1) = is in let high : 4096 < size = above in
      omega (arith, same, high);
}

pub short_answer : (e : Element) (i : Identifier) (size : ℕ) → IsMeant e i → size ≡ min (length (identifier_bytes i)) (2 ^ 64 - 1)
    → size ≤ most_bytes → IsAnswer e (Ok i)
short_answer e i size meant is below = record {
  meant = meant;
  within = let n = length (identifier_bytes i) in let same : size ≡ min n (2 ^ 64 - 1) = is in let low : size ≤ 4096 = below in
      omega (arith, same, low);
}
