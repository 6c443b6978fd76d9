-- Canonical bytes tell identifiers apart: those of two kinds by the names of their elements, and those of one kind part by part.
use Rattle.std.proofs.Common.{◌≡◌, ℕ, ◌<◌, cond, nat_eq, get_or, List, ◌∷◌, ◌++◌, codes, drop, refl, ap, sym, ◌∙◌, arith}
use Rattle.std.specs.Str.{byte}
use Rattle.ifmap_addresses.specs.IpV4.{ip_v4_text}
use Rattle.ifmap_addresses.specs.IpV4Laws.{ip_v4_tells}
use Rattle.ifmap_addresses.specs.IpV6.{ip_v6_text}
use Rattle.ifmap_addresses.specs.IpV6Laws.{ip_v6_tells}
use Rattle.ifmap_addresses.specs.MacAddresses.{mac_address_text}
use Rattle.ifmap_addresses.specs.MacAddressLaws.{mac_address_tells}
use Rattle.ifmap_addresses.specs.Values.{AreBelow}
use Rattle.ifmap_ident.specs.declared.identifiers.Identifier.{Identifier}
use Rattle.ifmap_ident.specs.declared.identifiers.Identifier.TheVariants.{AccessRequest, Device, Identity, IpV4, IpV6, MacAddress}
use Rattle.ifmap_ident.specs.declared.kinds.IdentityType.{IdentityType}
use Rattle.ifmap_ident.specs.declared.kinds.IdentityType.TheVariants.{AikName, DistinguishedName, DnsName, EmailAddress, HipHit, KerberosPrincipal, Username, SipUri, TelUri, Other}
use Rattle.ifmap_elem.specs.Chars.{space_character}
use Rattle.ifmap_elem.specs.declared.escaping.TextPlace.TheVariants.{Value, Content}
use Rattle.ifmap_ident.specs.Identifiers.{identifier_bytes}
use Rattle.ifmap_ident.specs.Kinds.{identity_type_name}
use Rattle.ifmap_ident.specs.Written.{IsTyped, closed_text, domain_written, identifier_written, optional_written}
use Rattle.ifmap_ident.proofs.OptionalLaws.{optional_alike}
use Rattle.ifmap_ident.proofs.PlacedLaws.{text_alike}
use Rattle.ifmap_ident.proofs.PrintedLaws.{prints_as}
use Rattle.ifmap_ident.proofs.KindLaws.{types_are_one}

-- ---- types of identities

-- by the first two letters of their names
type_of : ℕ → ℕ → IdentityType
type_of first second =
    cond (nat_eq first (byte "a")) AikName (cond (nat_eq first (byte "d")) (cond (nat_eq second (byte "i")) DistinguishedName DnsName)
    (cond (nat_eq first (byte "e")) EmailAddress (cond (nat_eq first (byte "h")) HipHit (cond (nat_eq first (byte "k")) KerberosPrincipal
    (cond (nat_eq first (byte "u")) Username (cond (nat_eq first (byte "s")) SipUri (cond (nat_eq first (byte "t")) TelUri Other)))))))

abbrev by_letters : List ℕ → IdentityType
by_letters name = type_of (get_or name 0 0) (get_or name 1 0)

type_of_name : (k : IdentityType) → by_letters (identity_type_name k) ≡ k
unfolding type_of
type_of_name AikName = refl
type_of_name DistinguishedName = refl
type_of_name DnsName = refl
type_of_name EmailAddress = refl
type_of_name HipHit = refl
type_of_name KerberosPrincipal = refl
type_of_name Username = refl
type_of_name SipUri = refl
type_of_name TelUri = refl
type_of_name Other = refl

-- ---- parts in a row

-- the domain, and then an attribute whose name begins with this letter
domain_alike : (letter : ℕ) (d e s t : List ℕ) → 97 < letter
    → domain_written d ++ (space_character ∷ (letter ∷ s)) ≡ domain_written e ++ (space_character ∷ (letter ∷ t)) → (d ≡ e) × (s ≡ t)
domain_alike letter d e s t h = optional_alike 97 letter (codes "dministrative-domain") d e s t h

access_requests_alike : (n d m e : List ℕ) → identifier_written (AccessRequest n d) ≡ identifier_written (AccessRequest m e)
    → AccessRequest n d ≡ AccessRequest m e
access_requests_alike n d m e h =
    let domains = domain_alike 110 d e (codes "ame=\"" ++ (closed_text Value n ++ codes "/>")) (codes "ame=\"" ++ (closed_text Value m
    ++ codes "/>"))
    (omega arith) (ap (drop 15) h) in
    let names = text_alike Value n m (codes "/>") (codes "/>") (ap (drop 5) domains.1) in
    λ i. AccessRequest (names.0 i) (domains.0 i)

devices_alike : (n m : List ℕ) → identifier_written (Device n) ≡ identifier_written (Device m) → Device n ≡ Device m
devices_alike n m h = ap Device (text_alike Content n m (codes "/name></device>") (codes "/name></device>") (ap (drop 14) h)).0

abbrev type_end : IdentityType → List ℕ
type_end k = codes "ype=\"" ++ (closed_text Value (identity_type_name k) ++ codes "/>")

abbrev other_end : List ℕ → IdentityType → List ℕ
other_end u k = optional_written (codes "other-type-definition") u ++ (space_character ∷ (byte "t" ∷ type_end k))

identities_alike : (n : List ℕ) (k : IdentityType) (u d m : List ℕ) (l : IdentityType) (v e : List ℕ)
    → identifier_written (Identity n k u d) ≡ identifier_written (Identity m l v e) → Identity n k u d ≡ Identity m l v e
identities_alike n k u d m l v e h =
    let domains = domain_alike 110 d e (codes "ame=\"" ++ (closed_text Value n ++ other_end u k)) (codes "ame=\"" ++ (closed_text Value m
    ++ other_end v l)) (omega arith) (ap (drop 9) h) in
    let names = text_alike Value n m (other_end u k) (other_end v l) (ap (drop 5) domains.1) in
    let others = optional_alike 111 116 (codes "ther-type-definition") u v (type_end k) (type_end l) (omega arith) names.1 in
    let types = types_are_one k l (text_alike Value (identity_type_name k) (identity_type_name l) (codes "/>") (codes "/>") (ap
    (drop 5) others.1)).0 in
    λ i. Identity (names.0 i) (types i) (others.0 i) (domains.0 i)

abbrev value_end : List ℕ → List ℕ
value_end text = closed_text Value text ++ codes "/>"

-- the texts of two addresses with a type of four letters
typed_alike : (type other d e s t : List ℕ)
    → domain_written d ++ (codes " type=\"" ++ (type ++ (codes "\" value=\"" ++ value_end s))) ≡ domain_written e
    ++ (codes " type=\"" ++ (other ++ (codes "\" value=\"" ++ value_end t)))
    → (d ≡ e) × (type ++ (codes "\" value=\"" ++ value_end s) ≡ other ++ (codes "\" value=\"" ++ value_end t))
typed_alike type other d e s t h =
    let both = domain_alike 116 d e (codes "ype=\"" ++ (type ++ (codes "\" value=\"" ++ value_end s))) (codes "ype=\"" ++ (other
    ++ (codes "\" value=\"" ++ value_end t))) (omega arith) h in
    (both.0, ap (drop 5) both.1)

v4_alike : (v d w e : List ℕ) → AreBelow 256 4 v → AreBelow 256 4 w → identifier_written (IpV4 v d) ≡ identifier_written (IpV4 w e)
    → IpV4 v d ≡ IpV4 w e
v4_alike v d w e f g h =
    let both = typed_alike (codes "IPv4") (codes "IPv4") d e (ip_v4_text v) (ip_v4_text w) (ap (drop 11) h) in
    let texts = text_alike Value (ip_v4_text v) (ip_v4_text w) (codes "/>") (codes "/>") (ap (drop 13) both.1) in
    λ i. IpV4 (ip_v4_tells v w f g texts.0 i) (both.0 i)

v6_alike : (v d w e : List ℕ) → AreBelow 65536 8 v → AreBelow 65536 8 w → identifier_written (IpV6 v d) ≡ identifier_written (IpV6 w e)
    → IpV6 v d ≡ IpV6 w e
v6_alike v d w e f g h =
    let both = typed_alike (codes "IPv6") (codes "IPv6") d e (ip_v6_text v) (ip_v6_text w) (ap (drop 11) h) in
    let texts = text_alike Value (ip_v6_text v) (ip_v6_text w) (codes "/>") (codes "/>") (ap (drop 13) both.1) in
    λ i. IpV6 (ip_v6_tells v w f g texts.0 i) (both.0 i)

v4_is_no_v6 : (v d w e : List ℕ) → identifier_written (IpV4 v d) ≡ identifier_written (IpV6 w e) → ⊥
v4_is_no_v6 v d w e h =
    let both = typed_alike (codes "IPv4") (codes "IPv6") d e (ip_v4_text v) (ip_v6_text w) (ap (drop 11) h) in
    let wrong : ◌≡◌ {A = ℕ} 52 54 = ap (λ text. get_or text 3 0) both.1 in
    omega arith

mac_addresses_alike : (v d w e : List ℕ) → AreBelow 256 6 v → AreBelow 256 6 w
    → identifier_written (MacAddress v d) ≡ identifier_written (MacAddress w e) → MacAddress v d ≡ MacAddress w e
mac_addresses_alike v d w e f g h =
    let both = domain_alike 118 d e (codes "alue=\"" ++ value_end (mac_address_text v)) (codes "alue=\"" ++ value_end (mac_address_text w))
    (omega arith) (ap (drop 12) h) in
    let texts = text_alike Value (mac_address_text v) (mac_address_text w) (codes "/>") (codes "/>") (ap (drop 6) both.1) in
    λ i. MacAddress (mac_address_tells v w (f.number ∙ sym g.number) texts.0 i) (both.0 i)

-- ---- all of them

-- the third byte tells the kind
kinds_apart : (text other : List ℕ) (b c : ℕ) → (b ≡ c → ⊥) → get_or text 2 0 ≡ b → get_or other 2 0 ≡ c → text ≡ other → ⊥
kinds_apart text other b c n f g e = n (sym f ∙ ap (λ t. get_or t 2 0) e ∙ g)

typed_are_alike : (a b : Identifier) → IsTyped a → IsTyped b → identifier_written a ≡ identifier_written b → a ≡ b
typed_are_alike (AccessRequest n d) (AccessRequest m e) f g h = access_requests_alike n d m e h
typed_are_alike (AccessRequest n d) (Device m) f g h = absurd (kinds_apart _ _ 99 101 (λ e. omega arith) refl refl h)
typed_are_alike (AccessRequest n d) (Identity m l v e) f g h = absurd (kinds_apart _ _ 99 100 (λ e. omega arith) refl refl h)
typed_are_alike (AccessRequest n d) (IpV4 m e) f g h = absurd (kinds_apart _ _ 99 112 (λ e. omega arith) refl refl h)
typed_are_alike (AccessRequest n d) (IpV6 m e) f g h = absurd (kinds_apart _ _ 99 112 (λ e. omega arith) refl refl h)
typed_are_alike (AccessRequest n d) (MacAddress m e) f g h = absurd (kinds_apart _ _ 99 97 (λ e. omega arith) refl refl h)
typed_are_alike (Device n) (AccessRequest m e) f g h = absurd (kinds_apart _ _ 101 99 (λ e. omega arith) refl refl h)
typed_are_alike (Device n) (Device m) f g h = devices_alike n m h
typed_are_alike (Device n) (Identity m l v e) f g h = absurd (kinds_apart _ _ 101 100 (λ e. omega arith) refl refl h)
typed_are_alike (Device n) (IpV4 m e) f g h = absurd (kinds_apart _ _ 101 112 (λ e. omega arith) refl refl h)
typed_are_alike (Device n) (IpV6 m e) f g h = absurd (kinds_apart _ _ 101 112 (λ e. omega arith) refl refl h)
typed_are_alike (Device n) (MacAddress m e) f g h = absurd (kinds_apart _ _ 101 97 (λ e. omega arith) refl refl h)
typed_are_alike (Identity n k u d) (AccessRequest m e) f g h = absurd (kinds_apart _ _ 100 99 (λ e. omega arith) refl refl h)
typed_are_alike (Identity n k u d) (Device m) f g h = absurd (kinds_apart _ _ 100 101 (λ e. omega arith) refl refl h)
typed_are_alike (Identity n k u d) (Identity m l v e) f g h = identities_alike n k u d m l v e h
typed_are_alike (Identity n k u d) (IpV4 m e) f g h = absurd (kinds_apart _ _ 100 112 (λ e. omega arith) refl refl h)
typed_are_alike (Identity n k u d) (IpV6 m e) f g h = absurd (kinds_apart _ _ 100 112 (λ e. omega arith) refl refl h)
typed_are_alike (Identity n k u d) (MacAddress m e) f g h = absurd (kinds_apart _ _ 100 97 (λ e. omega arith) refl refl h)
typed_are_alike (IpV4 n d) (AccessRequest m e) f g h = absurd (kinds_apart _ _ 112 99 (λ e. omega arith) refl refl h)
typed_are_alike (IpV4 n d) (Device m) f g h = absurd (kinds_apart _ _ 112 101 (λ e. omega arith) refl refl h)
typed_are_alike (IpV4 n d) (Identity m l v e) f g h = absurd (kinds_apart _ _ 112 100 (λ e. omega arith) refl refl h)
typed_are_alike (IpV4 n d) (IpV4 m e) f g h = v4_alike n d m e f g h
typed_are_alike (IpV4 n d) (IpV6 m e) f g h = absurd (v4_is_no_v6 n d m e h)
typed_are_alike (IpV4 n d) (MacAddress m e) f g h = absurd (kinds_apart _ _ 112 97 (λ e. omega arith) refl refl h)
typed_are_alike (IpV6 n d) (AccessRequest m e) f g h = absurd (kinds_apart _ _ 112 99 (λ e. omega arith) refl refl h)
typed_are_alike (IpV6 n d) (Device m) f g h = absurd (kinds_apart _ _ 112 101 (λ e. omega arith) refl refl h)
typed_are_alike (IpV6 n d) (Identity m l v e) f g h = absurd (kinds_apart _ _ 112 100 (λ e. omega arith) refl refl h)
typed_are_alike (IpV6 n d) (IpV4 m e) f g h = absurd (v4_is_no_v6 m e n d (sym h))
typed_are_alike (IpV6 n d) (IpV6 m e) f g h = v6_alike n d m e f g h
typed_are_alike (IpV6 n d) (MacAddress m e) f g h = absurd (kinds_apart _ _ 112 97 (λ e. omega arith) refl refl h)
typed_are_alike (MacAddress n d) (AccessRequest m e) f g h = absurd (kinds_apart _ _ 97 99 (λ e. omega arith) refl refl h)
typed_are_alike (MacAddress n d) (Device m) f g h = absurd (kinds_apart _ _ 97 101 (λ e. omega arith) refl refl h)
typed_are_alike (MacAddress n d) (Identity m l v e) f g h = absurd (kinds_apart _ _ 97 100 (λ e. omega arith) refl refl h)
typed_are_alike (MacAddress n d) (IpV4 m e) f g h = absurd (kinds_apart _ _ 97 112 (λ e. omega arith) refl refl h)
typed_are_alike (MacAddress n d) (IpV6 m e) f g h = absurd (kinds_apart _ _ 97 112 (λ e. omega arith) refl refl h)
typed_are_alike (MacAddress n d) (MacAddress m e) f g h = mac_addresses_alike n d m e f g h

-- the canonical bytes of identifiers tell them apart
pub identifiers_alike : (a b : Identifier) → IsTyped a → IsTyped b → identifier_bytes a ≡ identifier_bytes b → a ≡ b
identifiers_alike a b f g h = typed_are_alike a b f g (sym (prints_as a) ∙ h ∙ prints_as b)
