-- An element means one identifier at most, and has one answer but for want of memory.
-- 1. What each part tells is one: a value, a definition, a kept name, a child, a text.
-- 2. So two sets of parts of one variant are those of one identifier.
-- 3. The variants differ by the element's name, and IPv4 from IPv6 by the type.
-- 4. Two causes, or a cause and an identifier, do not stand together.
use Rattle.std.proofs.Common.{◌≡◌, ℕ, ◌<◌, ◌≤◌, List, [], ◌∷◌, Option, Some, Result, Ok, Err, codes, length, refl, sym, ◌∙◌, ap, subst, inl, inr, arith}
use Rattle.ifmap_lemmas.specs.Absent.{one_of}
use Rattle.ifmap_lemmas.specs.Joined.{one_member}
use Rattle.ifmap_addresses.specs.IpV4.{IsIpV4}
use Rattle.ifmap_addresses.specs.IpV6.{IsIpV6}
use Rattle.ifmap_addresses.specs.IpV4Laws.{one_ip_v4}
use Rattle.ifmap_addresses.specs.IpV6Laws.{one_ip_v6}
use Rattle.ifmap_addresses.specs.MacAddresses.{IsMacAddress}
use Rattle.ifmap_addresses.specs.MacAddressLaws.{one_mac_address}
use Rattle.ifmap_elem.specs.Canonical.{canonical_bytes}
use Rattle.ifmap_elem.specs.declared.elements.Child.{Child, out-Child}
use Rattle.ifmap_elem.specs.declared.elements.Child as the
use Rattle.ifmap_elem.specs.declared.elements.Child.TheOpen.{Child-F}
use Rattle.ifmap_elem.specs.declared.elements.Element.{Element}
use Rattle.ifmap_elem.specs.declared.readings.Reading.{Reading}
use Rattle.ifmap_elem.specs.laws.ArrangedLaws.{one_element}
use Rattle.ifmap_elem.specs.laws.FitLaws.{out_text}
use Rattle.ifmap_elem.specs.laws.OneReading.{one_reading}
use Rattle.ifmap_ident.specs.declared.errors.IdentError.{IdentError}
use Rattle.ifmap_ident.specs.declared.errors.IdentError.TheVariants.{WrongKind, Invalid, TooLong, NoMemory}
use Rattle.ifmap_ident.specs.declared.identifiers.Identifier.{Identifier}
use Rattle.ifmap_ident.specs.declared.identifiers.Identifier.TheVariants.{AccessRequest, Device, Identity, IpV4, IpV6, MacAddress}
use Rattle.ifmap_ident.specs.declared.kinds.IdentityType.{IdentityType}
use Rattle.ifmap_ident.specs.declared.kinds.IdentityType.TheVariants as types
use Rattle.ifmap_ident.specs.declared.names.NameForm.{NameForm}
use Rattle.ifmap_ident.specs.declared.names.NameForm.TheVariants.{Literal, Domain, Spelled}
use Rattle.ifmap_ident.specs.Canon.{HasParts, HoldsName, IsAccessRequest, IsAnswer, IsCanon, IsDefinition, IsDevice, IsIdentity, IsInvalid, IsIpAddress, IsMacAddressElement, IsMeant, IsTooLong, IsWrongKind, most_bytes}
use Rattle.ifmap_ident.specs.Identifiers.{identifier_bytes, identifier_kind}
use Rattle.ifmap_ident.specs.IdentityNames.{IsKeptName, name_form}
use Rattle.ifmap_ident.specs.Kinds.{identity_type_name}
use Rattle.ifmap_ident.specs.Laws.{AreOneAnswer}
use Rattle.ifmap_ident.specs.Parts.{value_of}
use Rattle.ifmap_ident.proofs.KindLaws.{types_are_one}
use Rattle.ifmap_ident.proofs.MeaningLaws.{kind_of_meant, versions_differ}

-- ---- parts

pub one_definition : (kind : IdentityType) (given : Option (List ℕ)) (x y : List ℕ) → IsDefinition kind given x → IsDefinition kind given y
    → x ≡ y
one_definition types.Other given x y p q = one_of given x y p.0 q.0
one_definition types.AikName given x y p q = p ∙ sym q
one_definition types.DistinguishedName given x y p q = p ∙ sym q
one_definition types.DnsName given x y p q = p ∙ sym q
one_definition types.EmailAddress given x y p q = p ∙ sym q
one_definition types.HipHit given x y p q = p ∙ sym q
one_definition types.KerberosPrincipal given x y p q = p ∙ sym q
one_definition types.Username given x y p q = p ∙ sym q
one_definition types.SipUri given x y p q = p ∙ sym q
one_definition types.TelUri given x y p q = p ∙ sym q

pub one_kept : (form : NameForm) (text x y : List ℕ) → IsKeptName form text x → IsKeptName form text y → x ≡ y
one_kept Literal text x y p q = p ∙ sym q
one_kept Domain text x y p q = p ∙ sym q
one_kept Spelled text x y p q =
    p.canonical ∙ ap (λ (r : Reading). canonical_bytes r.root) (one_reading text p.reading q.reading p.spelled q.spelled)
    ∙ sym q.canonical

text_or : List ℕ → Child-F Child Element → List ℕ
text_or d (Child-F.Element e) = d
text_or d (Child-F.Text t) = t

pub one_text : (x y : List ℕ) → the.Text x ≡ the.Text y → x ≡ y
unfolding text_or
one_text x y e = ap (text_or x) (sym (out_text x) ∙ ap out-Child e ∙ out_text y)

one_name_held : (child : Element) (x y : List ℕ) → HoldsName child x → HoldsName child y → x ≡ y
one_name_held child x y p q = one_text x y (one_member (the.Text x) (the.Text y) (sym p.text_is ∙ q.text_is))

one_device_name : (e : Element) (x y : List ℕ) → IsDevice e x → IsDevice e y → x ≡ y
one_device_name e x y p q =
    let child : p.child ≡ q.child = one_element p.child q.child (one_member (the.Element p.child) (the.Element q.child)
    (sym p.children ∙ q.children)) in
    one_name_held p.child x y p.holds (subst (λ c. HoldsName c y) (sym child) q.holds)

-- ---- variants

one_access_request : (e : Element) (n d m c : List ℕ) → IsAccessRequest e n d → IsAccessRequest e m c
    → AccessRequest n d ≡ AccessRequest m c
one_access_request e n d m c p q =
    λ i. AccessRequest (one_of (value_of (codes "name") e) n m p.name_is q.name_is i) ((p.domain_is ∙ sym q.domain_is) i)

one_identity : (e : Element) (n : List ℕ) (k : IdentityType) (o d m : List ℕ) (l : IdentityType) (s c : List ℕ) → IsIdentity e n k o d
    → IsIdentity e m l s c → Identity n k o d ≡ Identity m l s c
one_identity e n k o d m l s c p q =
    let named : Option (List ℕ) = value_of (codes "type") e in
    let kinds : k ≡ l = types_are_one k l (one_of named (identity_type_name k) (identity_type_name l) p.kind_is q.kind_is) in
    let given : Option (List ℕ) = value_of (codes "other-type-definition") e in
    let others : o ≡ s = one_definition k given o s p.definition (subst (λ t. IsDefinition t given s) (sym kinds) q.definition) in
    let texts : p.text ≡ q.text = one_of (value_of (codes "name") e) p.text q.text p.text_is q.text_is in
    let kept : IsKeptName (name_form k o) p.text m =
    subst (λ t. IsKeptName (name_form k o) t m) (sym texts)
    (subst (λ t. IsKeptName (name_form t o) q.text m) (sym kinds) (subst (λ t. IsKeptName (name_form l t) q.text m) (sym others) q.kept)) in
    let names : n ≡ m = one_kept (name_form k o) p.text n m p.kept kept in
    λ i. Identity (names i) (kinds i) (others i) ((p.domain_is ∙ sym q.domain_is) i)

one_ip : (kind : List ℕ) (IsAddress : List ℕ → List ℕ → Type 0) (single : (text v w : List ℕ) → IsAddress text v → IsAddress text w → v ≡ w)
    (Made : List ℕ → List ℕ → Identifier) (e : Element) (v d w c : List ℕ)
    → IsIpAddress kind IsAddress e v d → IsIpAddress kind IsAddress e w c
    → Made v d ≡ Made w c
one_ip kind IsAddress single Made e v d w c p q =
    let texts : p.text ≡ q.text = one_of (value_of (codes "value") e) p.text q.text p.text_is q.text_is in
    let values : v ≡ w = single p.text v w p.means (subst (λ t. IsAddress t w) (sym texts) q.means) in
    λ i. Made (values i) ((p.domain_is ∙ sym q.domain_is) i)

one_mac : (e : Element) (v d w c : List ℕ) → IsMacAddressElement e v d → IsMacAddressElement e w c → MacAddress v d ≡ MacAddress w c
one_mac e v d w c p q =
    let texts : p.text ≡ q.text = one_of (value_of (codes "value") e) p.text q.text p.text_is q.text_is in
    let values : v ≡ w = one_mac_address p.text v w p.means (subst (λ t. IsMacAddress t w) (sym texts) q.means) in
    λ i. MacAddress (values i) ((p.domain_is ∙ sym q.domain_is) i)

one_parts : (e : Element) (i j : Identifier) → identifier_kind i ≡ identifier_kind j → HasParts e i → HasParts e j → i ≡ j
one_parts e (AccessRequest n d) (AccessRequest m c) k p q = one_access_request e n d m c p q
one_parts e (AccessRequest n d) (Device m) k p q = absurd cc
one_parts e (AccessRequest n d) (Identity m l s c) k p q = absurd cc
one_parts e (AccessRequest n d) (IpV4 w c) k p q = absurd cc
one_parts e (AccessRequest n d) (IpV6 w c) k p q = absurd cc
one_parts e (AccessRequest n d) (MacAddress w c) k p q = absurd cc
one_parts e (Device n) (AccessRequest m c) k p q = absurd cc
one_parts e (Device n) (Device m) k p q = ap Device (one_device_name e n m p q)
one_parts e (Device n) (Identity m l s c) k p q = absurd cc
one_parts e (Device n) (IpV4 w c) k p q = absurd cc
one_parts e (Device n) (IpV6 w c) k p q = absurd cc
one_parts e (Device n) (MacAddress w c) k p q = absurd cc
one_parts e (Identity n t o d) (AccessRequest m c) k p q = absurd cc
one_parts e (Identity n t o d) (Device m) k p q = absurd cc
one_parts e (Identity n t o d) (Identity m l s c) k p q = one_identity e n t o d m l s c p q
one_parts e (Identity n t o d) (IpV4 w c) k p q = absurd cc
one_parts e (Identity n t o d) (IpV6 w c) k p q = absurd cc
one_parts e (Identity n t o d) (MacAddress w c) k p q = absurd cc
one_parts e (IpV4 v d) (AccessRequest m c) k p q = absurd cc
one_parts e (IpV4 v d) (Device m) k p q = absurd cc
one_parts e (IpV4 v d) (Identity m l s c) k p q = absurd cc
one_parts e (IpV4 v d) (IpV4 w c) k p q = one_ip (codes "IPv4") IsIpV4 one_ip_v4 IpV4 e v d w c p q
one_parts e (IpV4 v d) (IpV6 w c) k p q = absurd (versions_differ (sym p.kind_is ∙ q.kind_is))
one_parts e (IpV4 v d) (MacAddress w c) k p q = absurd cc
one_parts e (IpV6 v d) (AccessRequest m c) k p q = absurd cc
one_parts e (IpV6 v d) (Device m) k p q = absurd cc
one_parts e (IpV6 v d) (Identity m l s c) k p q = absurd cc
one_parts e (IpV6 v d) (IpV4 w c) k p q = absurd (versions_differ (sym q.kind_is ∙ p.kind_is))
one_parts e (IpV6 v d) (IpV6 w c) k p q = one_ip (codes "IPv6") IsIpV6 one_ip_v6 IpV6 e v d w c p q
one_parts e (IpV6 v d) (MacAddress w c) k p q = absurd cc
one_parts e (MacAddress v d) (AccessRequest m c) k p q = absurd cc
one_parts e (MacAddress v d) (Device m) k p q = absurd cc
one_parts e (MacAddress v d) (Identity m l s c) k p q = absurd cc
one_parts e (MacAddress v d) (IpV4 w c) k p q = absurd cc
one_parts e (MacAddress v d) (IpV6 w c) k p q = absurd cc
one_parts e (MacAddress v d) (MacAddress w c) k p q = one_mac e v d w c p q

one_meaning : (e : Element) (i j : Identifier) → IsMeant e i → IsMeant e j → i ≡ j
one_meaning e i j p q = one_parts e i j (kind_of_meant e (identifier_kind j) i q.named p) p.parts q.parts

pub one_identifier : (e : Element) (i j : Identifier) → IsCanon e i → IsCanon e j → i ≡ j
one_identifier e i j p q = one_meaning e i j p.meant q.meant

-- ---- answers

within_or_above : (e : Element) (i : Identifier) → IsCanon e i → IsTooLong e → ⊥
within_or_above e i p q =
    let same : length (identifier_bytes i) ≡ length (identifier_bytes q.identifier) =
    ap (λ j. length (identifier_bytes j)) (one_meaning e i q.identifier p.meant q.meant) in
    let low : length (identifier_bytes i) ≤ most_bytes = p.within in
    let high : most_bytes < length (identifier_bytes q.identifier) = q.above in
    omega (arith, same, low, high)

of_kind_or_not : (e : Element) → IsWrongKind e → IsInvalid e → ⊥
of_kind_or_not e p q = p q.kind q.named

pub one_answer : (e : Element) (r s : Result Identifier IdentError) → IsAnswer e r → IsAnswer e s → AreOneAnswer r s
one_answer e (Ok i) (Ok j) p q = inl (ap Ok (one_identifier e i j p q))
one_answer e (Ok i) (Err WrongKind) p q = absurd (q (identifier_kind i) p.meant.named)
one_answer e (Ok i) (Err Invalid) p q = absurd (q.none i p.meant)
one_answer e (Ok i) (Err TooLong) p q = absurd (within_or_above e i p q)
one_answer e (Ok i) (Err NoMemory) p q = inr (inr refl)
one_answer e (Err WrongKind) (Ok j) p q = absurd (p (identifier_kind j) q.meant.named)
one_answer e (Err WrongKind) (Err WrongKind) p q = inl refl
one_answer e (Err WrongKind) (Err Invalid) p q = absurd (of_kind_or_not e p q)
one_answer e (Err WrongKind) (Err TooLong) p q = absurd (p (identifier_kind q.identifier) q.meant.named)
one_answer e (Err WrongKind) (Err NoMemory) p q = inr (inr refl)
one_answer e (Err Invalid) (Ok j) p q = absurd (p.none j q.meant)
one_answer e (Err Invalid) (Err WrongKind) p q = absurd (of_kind_or_not e q p)
one_answer e (Err Invalid) (Err Invalid) p q = inl refl
one_answer e (Err Invalid) (Err TooLong) p q = absurd (p.none q.identifier q.meant)
one_answer e (Err Invalid) (Err NoMemory) p q = inr (inr refl)
one_answer e (Err TooLong) (Ok j) p q = absurd (within_or_above e j q p)
one_answer e (Err TooLong) (Err WrongKind) p q = absurd (q (identifier_kind p.identifier) p.meant.named)
one_answer e (Err TooLong) (Err Invalid) p q = absurd (q.none p.identifier p.meant)
one_answer e (Err TooLong) (Err TooLong) p q = inl refl
one_answer e (Err TooLong) (Err NoMemory) p q = inr (inr refl)
one_answer e (Err NoMemory) s p q = inr (inl refl)
