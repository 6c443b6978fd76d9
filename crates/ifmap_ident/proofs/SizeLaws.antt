-- How many canonical bytes identifiers have, part by part.
use Rattle.std.proofs.Common.{◌≡◌, ℕ, ◌+◌, List, [], ◌∷◌, ◌++◌, codes, length, refl, ap, ◌∙◌, arith, length-append}
use Rattle.ifmap_addresses.specs.IpV4.{ip_v4_text}
use Rattle.ifmap_addresses.specs.IpV6.{ip_v6_text}
use Rattle.ifmap_addresses.specs.MacAddresses.{mac_address_text}
use Rattle.ifmap_addresses.specs.Values.{IsAddressByte}
use Rattle.std.specs.List.{AllByRecursion}
use Rattle.ifmap_ident.specs.declared.identifiers.Identifier.TheVariants.{AccessRequest, Device, Identity, IpV4, IpV6, MacAddress}
use Rattle.ifmap_ident.specs.declared.kinds.IdentityType.{IdentityType}
use Rattle.ifmap_ident.specs.declared.kinds.IdentityType.TheVariants.{AikName, DistinguishedName, DnsName, EmailAddress, HipHit, KerberosPrincipal, Username, SipUri, TelUri, Other}
use Rattle.ifmap_elem.specs.declared.escaping.TextPlace.TheVariants.{Value, Content}
use Rattle.ifmap_ident.specs.Identifiers.{identifier_bytes}
use Rattle.ifmap_ident.specs.Kinds.{identity_type_name}
use Rattle.ifmap_ident.specs.Written.{attribute_written, closed_text, domain_written, optional_written, placed_bytes}
use Rattle.ifmap_ident.proofs.OrderLaws.{plain_text}
use Rattle.ifmap_ident.proofs.PrintedLaws.{prints_as}
use Rattle.ifmap_elem.specs.Chars.{double_quote, less_than}

pub access_request_size : (n d : List ℕ) → length (identifier_bytes (AccessRequest n d))
    ≡ length (domain_written d) + length (attribute_written (codes "name") n) + 17
access_request_size n d =
    let inner = length-append (attribute_written (codes "name") n) (codes "/>") in
    let outer = length-append (domain_written d) (attribute_written (codes "name") n ++ codes "/>") in
    ap length (prints_as (AccessRequest n d)) ∙ omega arith

pub device_size : (n : List ℕ) → length (identifier_bytes (Device n)) ≡ length (placed_bytes Content n) + 30
device_size n =
    let inner = length-append (placed_bytes Content n) (less_than ∷ []) in
    let outer = length-append (closed_text Content n) (codes "/name></device>") in
    ap length (prints_as (Device n)) ∙ omega arith

-- a type is written as it is
type_size : (k : IdentityType) → length (placed_bytes Value (identity_type_name k)) ≡ length (identity_type_name k)
type_size AikName = refl
type_size DistinguishedName = refl
type_size DnsName = refl
type_size EmailAddress = refl
type_size HipHit = refl
type_size KerberosPrincipal = refl
type_size Username = refl
type_size SipUri = refl
type_size TelUri = refl
type_size Other = refl

pub identity_size : (n : List ℕ) (k : IdentityType) (u d : List ℕ) → length (identifier_bytes (Identity n k u d))
    ≡ length (domain_written d) + length (attribute_written (codes "name") n) + length (optional_written (codes "other-type-definition") u)
    + length (identity_type_name k) + 19
identity_size n k u d =
    let name = attribute_written (codes "name") n in
    let other = optional_written (codes "other-type-definition") u in
    let type = attribute_written (codes "type") (identity_type_name k) in
    let plain = type_size k in
    let closed = length-append (placed_bytes Value (identity_type_name k)) (double_quote ∷ []) in
    let a = length-append type (codes "/>") in
    let b = length-append other (type ++ codes "/>") in
    let e = length-append name (other ++ (type ++ codes "/>")) in
    let f = length-append (domain_written d) (name ++ (other ++ (type ++ codes "/>"))) in
    ap length (prints_as (Identity n k u d)) ∙ omega arith

-- an address of some type
address_length : (front d text : List ℕ) → length (domain_written d ++ (front ++ (attribute_written (codes "value") text ++ codes "/>")))
    ≡ length (domain_written d) + length front + length (placed_bytes Value text) + 11
address_length front d text =
    let closed = length-append (placed_bytes Value text) (double_quote ∷ []) in
    let a = length-append (attribute_written (codes "value") text) (codes "/>") in
    let b = length-append front (attribute_written (codes "value") text ++ codes "/>") in
    let e = length-append (domain_written d) (front ++ (attribute_written (codes "value") text ++ codes "/>")) in
    omega arith

plain_length : (text : List ℕ) → AllByRecursion IsAddressByte text → length (placed_bytes Value text) ≡ length text
plain_length text h =
    let closed = length-append (placed_bytes Value text) (double_quote ∷ []) in
    let other = length-append text (double_quote ∷ []) in
    let same = ap length (plain_text text h) in
    omega arith

pub v4_size : (v d : List ℕ) → AllByRecursion IsAddressByte (ip_v4_text v)
    → length (identifier_bytes (IpV4 v d)) ≡ length (domain_written d) + length (ip_v4_text v) + 34
v4_size v d h =
    let plain = plain_length (ip_v4_text v) h in
    let whole = address_length (attribute_written (codes "type") (codes "IPv4")) d (ip_v4_text v) in
    ap length (prints_as (IpV4 v d)) ∙ omega arith

pub v6_size : (v d : List ℕ) → AllByRecursion IsAddressByte (ip_v6_text v)
    → length (identifier_bytes (IpV6 v d)) ≡ length (domain_written d) + length (ip_v6_text v) + 34
v6_size v d h =
    let plain = plain_length (ip_v6_text v) h in
    let whole = address_length (attribute_written (codes "type") (codes "IPv6")) d (ip_v6_text v) in
    ap length (prints_as (IpV6 v d)) ∙ omega arith

pub mac_size : (v d : List ℕ) → AllByRecursion IsAddressByte (mac_address_text v)
    → length (identifier_bytes (MacAddress v d)) ≡ length (domain_written d) + length (mac_address_text v) + 23
mac_size v d h =
    let plain = plain_length (mac_address_text v) h in
    let whole = address_length [] d (mac_address_text v) in
    ap length (prints_as (MacAddress v d)) ∙ omega arith
