-- Each element has an answer that is not want of memory.
-- 1. What is one at most, and whether it has more, is decided.
-- 2. The parts of each kind: the element has them, or it has none such.
-- 3. So the element means an identifier, or one of the causes stands.
-- 4. The length of what is meant tells which answer it is.
use Rattle.std.proofs.Common.{◌≡◌, ◌≢◌, ℕ, ◌<◌, ◌≤◌, Bool, true, false, List, [], ◌∷◌, Option, None, Some, Result, Ok, Err, codes, length, unwrap_or, refl, sym, ◌∙◌, ap, subst, ◌⊎◌, inl, inr}
use Rattle.std.specs.List.{find}
use Rattle.std.specs.Str.{bytes_eq}
use Rattle.std.proofs.lemmas.Bool.{cases_lt}
use Rattle.ifmap_addresses.specs.IpV4.{IsIpV4}
use Rattle.ifmap_addresses.specs.IpV6.{IsIpV6}
use Rattle.ifmap_addresses.specs.MacAddresses.{IsMacAddress}
use Rattle.ifmap_elem.specs.Building.{bare_name, is_bare}
use Rattle.ifmap_elem.specs.Canonical.{canonical_bytes}
use Rattle.ifmap_elem.specs.Folds.{each_child}
use Rattle.ifmap_elem.specs.Nesting.{nesting}
use Rattle.ifmap_elem.specs.Spells.{Spells}
use Rattle.ifmap_elem.specs.declared.elements.Child.{Child}
use Rattle.ifmap_elem.specs.declared.elements.Child as the
use Rattle.ifmap_elem.specs.declared.elements.Element.{Element}
use Rattle.ifmap_elem.specs.declared.elements.Name.{Name}
use Rattle.ifmap_elem.specs.declared.readings.Reading.{Reading}
use Rattle.ifmap_elem.specs.laws.ArrangedLaws.{one_element}
use Rattle.ifmap_elem.specs.laws.OneReading.{one_reading}
use Rattle.ifmap_ident.specs.declared.errors.IdentError.{IdentError}
use Rattle.ifmap_ident.specs.declared.errors.IdentError.TheVariants.{WrongKind, Invalid, TooLong, NoMemory}
use Rattle.ifmap_ident.specs.declared.identifiers.Identifier.{Identifier}
use Rattle.ifmap_ident.specs.declared.identifiers.Identifier.TheVariants.{AccessRequest, Device, Identity, IpV4, IpV6, MacAddress}
use Rattle.ifmap_ident.specs.declared.kinds.IdentityType.{IdentityType}
use Rattle.ifmap_ident.specs.declared.kinds.IdentityType.TheVariants as types
use Rattle.ifmap_ident.specs.declared.kinds.Kind.{Kind}
use Rattle.ifmap_ident.specs.declared.kinds.Kind.TheVariants as variants
use Rattle.ifmap_ident.specs.declared.names.NameForm.{NameForm}
use Rattle.ifmap_ident.specs.declared.names.NameForm.TheVariants.{Literal, Domain, Spelled}
use Rattle.ifmap_ident.specs.Canon.{HoldsName, IsAccessRequest, IsDefinition, IsDevice, IsIdentity, IsIpAddress, IsMacAddressElement, IsOfKind, domain_of, most_bytes}
use Rattle.ifmap_ident.specs.Identifiers.{identifier_bytes}
use Rattle.ifmap_ident.specs.IdentityNames.{IsKeptName, domain_name, name_form}
use Rattle.ifmap_ident.specs.Kinds.{allowed_attributes, identity_type_name, identity_types, kind_name, kinds}
use Rattle.ifmap_ident.specs.Laws.{HasAnswer}
use Rattle.ifmap_ident.specs.Meaning.{ArePartsOf, IsMeaning}
use Rattle.ifmap_ident.specs.Parts.{has_only, is_blank_inside, solid_children, value_of}
use Rattle.ifmap_ident.proofs.FindLaws.{bare_tells, other_name}
use Rattle.ifmap_ident.proofs.KindLaws.{kind_found, no_kind, no_type, type_found, types_are_one}
use Rattle.ifmap_ident.proofs.MeaningLaws.{meaning_of_parts, no_access_request, no_device, no_identity, no_ip_address, no_mac_address, refused_meaning, unknown_attribute}
use Rattle.ifmap_ident.proofs.SingleLaws.{one_definition, one_kept, one_text}
use Rattle.ifmap_lemmas.specs.Deciding.{Decided, decided_both, decided_by, decided_test, same_or_not, within_or_not}
use Rattle.ifmap_lemmas.specs.Absent.{one_of, none_and_some}
use Rattle.ifmap_lemmas.specs.Joined.{one_member}
use Rattle.ifmap_lemmas.specs.Singles.{value_with, single_with, some_or_empty}
use Rattle.std.proofs.lemmas.Option.{same_Some}
use Rattle.ifmap_elem.specs.laws.NamedElements.{no_text}

-- ---- what is one at most, and has more

at_most : (n most : ℕ) → (n ≤ most) ⊎ (most < n)
at_most n most = elim (cases_lt most n) [ inl l ↦ inr l | inr g ↦ inl g ]

-- ---- an access request

access_request_or_none : (e : Element) → Decided ((name domain : List ℕ) × IsAccessRequest e name domain)
access_request_or_none e =
    decided_by
    (λ p. (p.1.0, domain_of e, record { children = p.0; name_is = p.1.1; not_empty = p.1.2; domain_is = refl }))
    (λ t. (t.2.children, (t.0, t.2.name_is, t.2.not_empty)))
    (decided_both (decided_test (is_blank_inside e)) (value_with (value_of (codes "name") e) (λ text. text ≢ []) some_or_empty))

-- ---- a device

abbrev IsEither : Child → Type 0
IsEither c = ((e : Element) × (c ≡ the.Element e)) ⊎ ((t : List ℕ) × (c ≡ the.Text t))

either : (c : Child) → IsEither c
either = each_child IsEither (λ e. Unit {0}) (λ e u. inl (e, refl)) (λ t. inr (t, refl)) (λ e each. tt)

only_element : (cs : List Child) → Decided ((child : Element) × (cs ≡ the.Element child ∷ []))
only_element [] = inr (λ p. let e : [] ≡ the.Element p.0 ∷ [] = p.1 in cc)
only_element (c ∷ (d ∷ cs)) = inr (λ p. let e : c ∷ (d ∷ cs) ≡ the.Element p.0 ∷ [] = p.1 in cc)
only_element (c ∷ []) = elim (either c) [
  | inl e ↦ inl (e.0, ap (λ x. x ∷ []) e.1)
  | inr t ↦ inr (λ p. no_text t.0 p.0 (sym t.1 ∙ one_member c (the.Element p.0) p.1))
]

only_text : (cs : List Child) → Decided ((text : List ℕ) × (cs ≡ the.Text text ∷ []))
only_text [] = inr (λ p. let e : [] ≡ the.Text p.0 ∷ [] = p.1 in cc)
only_text (c ∷ (d ∷ cs)) = inr (λ p. let e : c ∷ (d ∷ cs) ≡ the.Text p.0 ∷ [] = p.1 in cc)
only_text (c ∷ []) = elim (either c) [
  | inl e ↦ inr (λ p. no_text p.0 e.0 (sym (one_member c (the.Text p.0) p.1) ∙ e.1))
  | inr t ↦ inl (t.0, ap (λ x. x ∷ []) t.1)
]

one_only_text : (cs : List Child) (x y : List ℕ) → cs ≡ the.Text x ∷ [] → cs ≡ the.Text y ∷ [] → x ≡ y
one_only_text cs x y p q = one_text x y (one_member (the.Text x) (the.Text y) (sym p ∙ q))

one_only_element : (cs : List Child) (x y : Element) → cs ≡ the.Element x ∷ [] → cs ≡ the.Element y ∷ [] → x ≡ y
one_only_element cs x y p q = one_element x y (one_member (the.Element x) (the.Element y) (sym p ∙ q))

bare_or_not : (local : List ℕ) (name : Name) (b : Bool) → is_bare local name ≡ b → Decided (name ≡ bare_name local)
bare_or_not local name true h = inl (bare_tells local name h)
bare_or_not local name false h = inr (other_name local name h)

name_held_or_none : (child : Element) → Decided ((name : List ℕ) × HoldsName child name)
name_held_or_none child =
    decided_by
    (λ p. (p.1.0, record { named = p.0.0; attributes = p.0.1; text_is = p.1.1; not_empty = p.1.2 }))
    (λ t. ((t.1.named, t.1.attributes), (t.0, t.1.text_is, t.1.not_empty)))
    (decided_both (decided_both (bare_or_not (codes "name") child.name (is_bare (codes "name") child.name) refl)
    (decided_test (has_only [] child)))
    (single_with (λ text. child.children ≡ the.Text text ∷ []) (λ text. text ≢ []) (one_only_text child.children)
    (only_text child.children) some_or_empty))

device_or_none : (e : Element) → Decided ((name : List ℕ) × IsDevice e name)
device_or_none e =
    decided_by
    (λ p. (p.2.0, record { child = p.0; children = p.1; holds = p.2.1 }))
    (λ t. (t.1.child, t.1.children, (t.0, t.1.holds)))
    (single_with (λ child. solid_children e ≡ the.Element child ∷ []) (λ child. (name : List ℕ) × HoldsName child name)
    (one_only_element (solid_children e)) (only_element (solid_children e)) name_held_or_none)

-- ---- an identity

type_among : (name : List ℕ) (o : Option IdentityType) → o ≡ find (λ kind. bytes_eq (identity_type_name kind) name) identity_types
    → Decided ((kind : IdentityType) × (Some name ≡ Some (identity_type_name kind)))
type_among name None e = inr (λ t. no_type name None e refl t.0 (same_Some name (identity_type_name t.0) t.1))
type_among name (Some kind) e = inl (kind, ap Some (type_found name (Some kind) e))

type_or_none : (given : Option (List ℕ)) → Decided ((kind : IdentityType) × (given ≡ Some (identity_type_name kind)))
type_or_none None = inr (λ t. none_and_some None (identity_type_name t.0) refl t.1)
type_or_none (Some name) = type_among name (find (λ kind. bytes_eq (identity_type_name kind) name) identity_types) refl

one_type : (given : Option (List ℕ)) (k l : IdentityType) → given ≡ Some (identity_type_name k) → given ≡ Some (identity_type_name l)
    → k ≡ l
one_type given k l p q = types_are_one k l (one_of given (identity_type_name k) (identity_type_name l) p q)

definition_or_none : (kind : IdentityType) (given : Option (List ℕ)) → Decided ((other : List ℕ) × IsDefinition kind given other)
definition_or_none types.Other given =
    decided_by (λ p. (p.0, (p.1, p.2))) (λ t. (t.0, t.1.0, t.1.1)) (value_with given (λ text. text ≢ []) some_or_empty)
definition_or_none types.AikName given = inl ([], refl)
definition_or_none types.DistinguishedName given = inl ([], refl)
definition_or_none types.DnsName given = inl ([], refl)
definition_or_none types.EmailAddress given = inl ([], refl)
definition_or_none types.HipHit given = inl ([], refl)
definition_or_none types.KerberosPrincipal given = inl ([], refl)
definition_or_none types.Username given = inl ([], refl)
definition_or_none types.SipUri given = inl ([], refl)
definition_or_none types.TelUri given = inl ([], refl)

-- ---- addresses

address_or_none : (kind : List ℕ) (IsAddress : List ℕ → List ℕ → Type 0)
    → ((text : List ℕ) → Decided ((value : List ℕ) × IsAddress text value))
    → (e : Element) → Decided ((value domain : List ℕ) × IsIpAddress kind IsAddress e value domain)
address_or_none kind IsAddress decides e =
    decided_by
    (λ p. (
      p.1.2.0,
      domain_of e,
      record {
        children = p.0.0;
        kind_is = p.0.1;
        text = p.1.0;
        text_is = p.1.1;
        means = p.1.2.1;
        domain_is = refl;
      },
    ))
    (λ t. ((t.2.children, t.2.kind_is), (t.2.text, t.2.text_is, (t.0, t.2.means))))
    (decided_both (decided_both (decided_test (is_blank_inside e))
    (same_or_not (unwrap_or (value_of (codes "type") e) (codes "IPv4")) kind))
    (value_with (value_of (codes "value") e) (λ text. (value : List ℕ) × IsAddress text value) decides))

mac_or_none : ((text : List ℕ) → Decided ((value : List ℕ) × IsMacAddress text value)) → (e : Element)
    → Decided ((value domain : List ℕ) × IsMacAddressElement e value domain)
mac_or_none decides e =
    decided_by
    (λ p. (p.1.2.0, domain_of e, record { children = p.0; text = p.1.0; text_is = p.1.1; means = p.1.2.1; domain_is = refl }))
    (λ t. (t.2.children, (t.2.text, t.2.text_is, (t.0, t.2.means))))
    (decided_both (decided_test (is_blank_inside e))
    (value_with (value_of (codes "value") e) (λ text. (value : List ℕ) × IsMacAddress text value) decides))

-- ---- answers

ok_is_no_fault : (i : Identifier) → Ok i ≢ Err NoMemory
ok_is_no_fault i e = let f : Ok i ≡ Err NoMemory = e in cc

abbrev HasMeaning : Kind → Element → Type 0
HasMeaning kind e = (r : Result Identifier IdentError) × ArePartsOf kind e r × (r ≢ Err NoMemory)

abbrev refusal : IdentError → Result Identifier IdentError
refusal error = Err error

wrong_kind : refusal WrongKind ≢ refusal NoMemory
wrong_kind e = cc

invalid : refusal Invalid ≢ refusal NoMemory
invalid e = cc

too_long : refusal TooLong ≢ refusal NoMemory
too_long e = cc

access_request_answer : (e : Element) → Decided ((name domain : List ℕ) × IsAccessRequest e name domain)
    → HasMeaning variants.AccessRequest e
access_request_answer e (inl p) = (Ok (AccessRequest p.0 p.1), (refl, p.2), ok_is_no_fault (AccessRequest p.0 p.1))
access_request_answer e (inr fails) = (Err Invalid, no_access_request e (λ n d p. fails (n, d, p)), invalid)

device_answer : (e : Element) → Decided ((name : List ℕ) × IsDevice e name) → HasMeaning variants.Device e
device_answer e (inl p) = (Ok (Device p.0), (refl, p.1), ok_is_no_fault (Device p.0))
device_answer e (inr fails) = (Err Invalid, no_device e (λ n p. fails (n, p)), invalid)

ip_answer : (e : Element) → Decided ((value domain : List ℕ) × IsIpAddress (codes "IPv4") IsIpV4 e value domain)
    → Decided ((value domain : List ℕ) × IsIpAddress (codes "IPv6") IsIpV6 e value domain) → HasMeaning variants.IpAddress e
ip_answer e (inl p) q = (Ok (IpV4 p.0 p.1), (refl, p.2), ok_is_no_fault (IpV4 p.0 p.1))
ip_answer e (inr fails) (inl q) = (Ok (IpV6 q.0 q.1), (refl, q.2), ok_is_no_fault (IpV6 q.0 q.1))
ip_answer e (inr fails) (inr none) =
    (Err Invalid, no_ip_address e (λ v d p. fails (v, d, p)) (λ v d p. none (v, d, p)), invalid)

mac_answer : (e : Element) → Decided ((value domain : List ℕ) × IsMacAddressElement e value domain)
    → HasMeaning variants.MacAddress e
mac_answer e (inl p) = (Ok (MacAddress p.0 p.1), (refl, p.2), ok_is_no_fault (MacAddress p.0 p.1))
mac_answer e (inr fails) = (Err Invalid, no_mac_address e (λ v d p. fails (v, d, p)), invalid)

-- the size of what is meant tells the answer
answer_of : (e : Element) (r : Result Identifier IdentError) → IsMeaning e r → r ≢ Err NoMemory → HasAnswer e
answer_of e (Ok i) meant some = elim (at_most (length (identifier_bytes i)) most_bytes) [
  | inl within ↦ (Ok i, record { meant = meant; within = within }, ok_is_no_fault i)
  | inr above ↦ (Err TooLong, record { identifier = i; meant = meant; above = above }, too_long)
]
answer_of e (Err error) meant some = (Err error, refused_meaning e error meant, some)

module _ (reads : (bytes : List ℕ) → Decided ((reading : Reading) × Spells bytes reading))
    (v4 : (text : List ℕ) → Decided ((value : List ℕ) × IsIpV4 text value))
    (v6 : (text : List ℕ) → Decided ((value : List ℕ) × IsIpV6 text value))
    (mac : (text : List ℕ) → Decided ((value : List ℕ) × IsMacAddress text value)) where
  kept_or_none : (form : NameForm) (text : List ℕ) → Decided ((name : List ℕ) × IsKeptName form text name)
  kept_or_none Literal text = inl (text, refl)
  kept_or_none Domain text = inl (domain_name text, refl)
  kept_or_none Spelled text =
      decided_by
      (λ p. (canonical_bytes p.0.root, record { reading = p.0; spelled = p.1; shallow = p.2; canonical = refl }))
      (λ t. (t.1.reading, t.1.spelled, t.1.shallow))
      (single_with (Spells text) (λ (r : Reading). nesting r.root ≤ 64) (one_reading text) (reads text)
      (λ (r : Reading). within_or_not (nesting r.root) 64))

  -- the name of an identity of this type and definition
  abbrev HasName : Element → IdentityType → List ℕ → Type 0
  HasName e kind other =
      (text : List ℕ) × (value_of (codes "name") e ≡ Some text) × ((name : List ℕ) × IsKeptName (name_form kind other) text name
      × (name ≢ []))

  name_or_none : (e : Element) (kind : IdentityType) (other : List ℕ) → Decided (HasName e kind other)
  name_or_none e kind other =
      value_with (value_of (codes "name") e) (λ text. (name : List ℕ) × IsKeptName (name_form kind other) text name × (name ≢ []))
      (λ text. single_with (IsKeptName (name_form kind other) text) (λ name. name ≢ []) (one_kept (name_form kind other) text)
      (kept_or_none (name_form kind other) text) some_or_empty)

  abbrev HasDefinition : Element → IdentityType → Type 0
  HasDefinition e kind =
      (other : List ℕ) × IsDefinition kind (value_of (codes "other-type-definition") e) other × HasName e kind other

  identity_or_none : (e : Element)
      → Decided ((name : List ℕ) × (kind : IdentityType) × (other domain : List ℕ) × IsIdentity e name kind other domain)
  identity_or_none e =
      decided_by
      (λ p. (
        p.1.2.2.2.0,
        p.1.0,
        p.1.2.0,
        domain_of e,
        record {
          children = p.0;
          kind_is = p.1.1;
          definition = p.1.2.1;
          text = p.1.2.2.0;
          text_is = p.1.2.2.1;
          kept = p.1.2.2.2.1;
          not_empty = p.1.2.2.2.2;
          domain_is = refl;
        },
      ))
      (λ t. (t.4.children, (t.1, t.4.kind_is, (t.2, t.4.definition, (t.4.text, t.4.text_is, (t.0, t.4.kept, t.4.not_empty))))))
      (decided_both (decided_test (is_blank_inside e))
      (single_with (λ kind. value_of (codes "type") e ≡ Some (identity_type_name kind)) (HasDefinition e)
      (one_type (value_of (codes "type") e)) (type_or_none (value_of (codes "type") e))
      (λ kind. single_with (IsDefinition kind (value_of (codes "other-type-definition") e)) (HasName e kind)
      (one_definition kind (value_of (codes "other-type-definition") e))
      (definition_or_none kind (value_of (codes "other-type-definition") e)) (name_or_none e kind))))

  identity_answer : (e : Element)
      → Decided ((name : List ℕ) × (kind : IdentityType) × (other domain : List ℕ) × IsIdentity e name kind other domain)
      → HasMeaning variants.Identity e
  identity_answer e (inl p) = (Ok (Identity p.0 p.1 p.2 p.3), (refl, p.4), ok_is_no_fault (Identity p.0 p.1 p.2 p.3))
  identity_answer e (inr fails) = (Err Invalid, no_identity e (λ n k o d p. fails (n, k, o, d, p)), invalid)

  parts_answer : (kind : Kind) (e : Element) → HasMeaning kind e
  parts_answer variants.AccessRequest e = access_request_answer e (access_request_or_none e)
  parts_answer variants.Device e = device_answer e (device_or_none e)
  parts_answer variants.Identity e = identity_answer e (identity_or_none e)
  parts_answer variants.IpAddress e =
      ip_answer e (address_or_none (codes "IPv4") IsIpV4 v4 e) (address_or_none (codes "IPv6") IsIpV6 v6 e)
  parts_answer variants.MacAddress e = mac_answer e (mac_or_none mac e)

  of_attributes : (e : Element) (kind : Kind) (b : Bool) → IsOfKind e kind → has_only (allowed_attributes kind) e ≡ b → HasAnswer e
  of_attributes e kind false named only = (Err Invalid, unknown_attribute e kind named only, invalid)
  of_attributes e kind true named only =
      let p = parts_answer kind e in answer_of e p.0 (meaning_of_parts e kind p.0 named only p.1) p.2

  of_kind : (e : Element) (o : Option Kind) → o ≡ find (λ kind. is_bare (kind_name kind) e.name) kinds → HasAnswer e
  of_kind e None is = (Err WrongKind, no_kind e.name None is refl, wrong_kind)
  of_kind e (Some kind) is =
      of_attributes e kind (has_only (allowed_attributes kind) e) (kind_found e.name (Some kind) is) refl

  pub some_answer : (e : Element) → HasAnswer e
  some_answer e = of_kind e (find (λ kind. is_bare (kind_name kind) e.name) kinds) refl
