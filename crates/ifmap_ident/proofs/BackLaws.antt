-- The element of an identifier is read back as that identifier.
-- 1. What is kept is kept again as it is: a name, a definition, an address.
-- 2. What an element gives where an attribute is left out or not.
-- 3. The parts of each variant's element, with and without a domain.
-- 4. The attributes and the kind, and the length, which is the same.
use Rattle.std.proofs.Common.{◌≡◌, ◌≢◌, ℕ, List, [], ◌∷◌, Option, Some, IsTrue, true, not, codes, unwrap_or, refl, sym, ◌∙◌, ap, subst}
use Rattle.std.specs.List.{filter}
use Rattle.ifmap_addresses.specs.IpV4.{IsIpV4, ip_v4_text}
use Rattle.ifmap_addresses.specs.IpV6.{IsIpV6, ip_v6_text}
use Rattle.ifmap_addresses.specs.MacAddresses.{mac_address_text}
use Rattle.ifmap_addresses.specs.Values.{AreBelow}
use Rattle.ifmap_addresses.specs.IpV4Laws.{ip_v4_spelled}
use Rattle.ifmap_addresses.specs.IpV6Laws.{ip_v6_fits, ip_v6_spelled}
use Rattle.ifmap_addresses.specs.MacAddressLaws.{mac_address_spelled}
use Rattle.ifmap_elem.specs.Building.{bare_element, bare_name}
use Rattle.ifmap_elem.specs.Fit.{IsFit}
use Rattle.ifmap_elem.specs.Spells.{Spells}
use Rattle.ifmap_elem.specs.declared.elements.Child as the
use Rattle.ifmap_elem.specs.declared.elements.Element.{Element}
use Rattle.ifmap_elem.specs.declared.readings.Reading.{Reading}
use Rattle.ifmap_elem.specs.WhiteSpace.{is_blank_part}
use Rattle.ifmap_ident.specs.declared.identifiers.Identifier.{Identifier}
use Rattle.ifmap_ident.specs.declared.identifiers.Identifier.TheVariants.{AccessRequest, Device, Identity, IpV4, IpV6, MacAddress}
use Rattle.ifmap_ident.specs.declared.kinds.IdentityType.{IdentityType}
use Rattle.ifmap_ident.specs.declared.kinds.IdentityType.TheVariants as types
use Rattle.ifmap_ident.specs.declared.names.NameForm.{NameForm}
use Rattle.ifmap_ident.specs.declared.names.NameForm.TheVariants.{Literal, Domain, Spelled}
use Rattle.ifmap_ident.specs.Canon.{HasParts, IsAccessRequest, IsCanon, IsDefinition, IsDevice, IsIdentifier, IsIdentity, IsIpAddress, IsMacAddressElement, domain_of}
use Rattle.ifmap_ident.specs.Identifiers.{identifier_element, identifier_kind}
use Rattle.ifmap_ident.specs.IdentityNames.{IsKeptName, domain_name, name_form}
use Rattle.ifmap_ident.specs.Kinds.{allowed_attributes, identity_type_name, kind_name}
use Rattle.ifmap_ident.specs.Parts.{has_only, is_blank_inside, is_solid, value_of}
use Rattle.ifmap_ident.proofs.DotLaws.{domain_again}
use Rattle.ifmap_ident.proofs.SpelledLaws.{spelled_again}
use Rattle.ifmap_ident.specs.Meaning.{text_unless_empty}
use Rattle.ifmap_elem.specs.laws.ArrangedLaws.{out_element}

-- ---- what is kept again

module _ (fits : (bytes : List ℕ) (r : Reading) → Spells bytes r → IsFit r.root)
    (v4_size : (text value : List ℕ) → IsIpV4 text value → AreBelow 256 4 value) where
  kept_again : (form : NameForm) (text name : List ℕ) → IsKeptName form text name → IsKeptName form name name
  kept_again Literal text name kept = refl
  kept_again Domain text name kept = kept ∙ sym (domain_again text) ∙ ap domain_name (sym kept)
  kept_again Spelled text name kept = spelled_again fits text name kept

  -- the definition in the element that is made: none of an empty one
  some_again : (other : List ℕ) → other ≢ [] → text_unless_empty other ≡ Some other
  some_again [] some = absurd (some refl)
  some_again (b ∷ bs) some = refl

  definition_again : (kind : IdentityType) (given : Option (List ℕ)) (other : List ℕ) → IsDefinition kind given other
      → IsDefinition kind (text_unless_empty other) other
  definition_again types.Other given other d = (some_again other d.1, d.1)
  definition_again types.AikName given other d = d
  definition_again types.DistinguishedName given other d = d
  definition_again types.DnsName given other d = d
  definition_again types.EmailAddress given other d = d
  definition_again types.HipHit given other d = d
  definition_again types.KerberosPrincipal given other d = d
  definition_again types.Username given other d = d
  definition_again types.SipUri given other d = d
  definition_again types.TelUri given other d = d

  -- ---- the parts of each variant's element

  access_request_again : (e : Element) (name domain : List ℕ) → IsAccessRequest e name domain
      → IsAccessRequest (identifier_element (AccessRequest name domain)) name domain
  access_request_again e name [] p = record { children = refl; name_is = refl; not_empty = p.not_empty; domain_is = refl }
  access_request_again e name (b ∷ bs) p = record { children = refl; name_is = refl; not_empty = p.not_empty; domain_is = refl }

  -- an element among children is solid
  solid_element : (child : Element) → filter is_solid (the.Element child ∷ []) ≡ the.Element child ∷ []
  solid_element child =
      ap (λ t. filter (λ c. t) (the.Element child ∷ [])) (solid child)
    where
      solid : (child : Element) → is_solid (the.Element child) ≡ true
      solid child = ap (λ part. not (is_blank_part part)) (out_element child)

  device_again : (e : Element) (name : List ℕ) → IsDevice e name → IsDevice (identifier_element (Device name)) name
  device_again e name p = record {
    child = bare_element (codes "name") [] (the.Text name ∷ []);
    children = solid_element (bare_element (codes "name") [] (the.Text name ∷ []));
    holds = record { named = refl; attributes = refl; text_is = refl; not_empty = p.holds.not_empty };
  }

  -- an element has the parts of an identity that another has, where it gives the same of each attribute
  module _ (made : Element) (blank : IsTrue (is_blank_inside made)) where
    identity_in : (e : Element) (name : List ℕ) (kind : IdentityType) (other domain : List ℕ) → IsIdentity e name kind other domain
        → value_of (codes "type") made ≡ Some (identity_type_name kind)
        → value_of (codes "other-type-definition") made ≡ text_unless_empty other → value_of (codes "name") made ≡ Some name
        → domain ≡ domain_of made → IsIdentity made name kind other domain
    identity_in e name kind other domain p kind_is given name_is domain_is = record {
      children = blank;
      kind_is = kind_is;
      definition = subst (λ o. IsDefinition kind o other) (sym given)
          (definition_again kind (value_of (codes "other-type-definition") e) other p.definition);
      text = name;
      text_is = name_is;
      kept = kept_again (name_form kind other) p.text name p.kept;
      not_empty = p.not_empty;
      domain_is = domain_is;
    }

    v4_in : (e : Element) (value domain : List ℕ) → IsIpAddress (codes "IPv4") IsIpV4 e value domain
        → unwrap_or (value_of (codes "type") made) (codes "IPv4") ≡ codes "IPv4"
        → value_of (codes "value") made ≡ Some (ip_v4_text value) → domain ≡ domain_of made
        → IsIpAddress (codes "IPv4") IsIpV4 made value domain
    v4_in e value domain p kind_is text_is domain_is = record {
      children = blank;
      kind_is = kind_is;
      text = ip_v4_text value;
      text_is = text_is;
      means = ip_v4_spelled value (v4_size p.text value p.means);
      domain_is = domain_is;
    }

    v6_in : (e : Element) (value domain : List ℕ) → IsIpAddress (codes "IPv6") IsIpV6 e value domain
        → unwrap_or (value_of (codes "type") made) (codes "IPv4") ≡ codes "IPv6"
        → value_of (codes "value") made ≡ Some (ip_v6_text value) → domain ≡ domain_of made
        → IsIpAddress (codes "IPv6") IsIpV6 made value domain
    v6_in e value domain p kind_is text_is domain_is = record {
      children = blank;
      kind_is = kind_is;
      text = ip_v6_text value;
      text_is = text_is;
      means = ip_v6_spelled value (ip_v6_fits p.text value p.means);
      domain_is = domain_is;
    }

    mac_in : (e : Element) (value domain : List ℕ) → IsMacAddressElement e value domain
        → value_of (codes "value") made ≡ Some (mac_address_text value) → domain ≡ domain_of made
        → IsMacAddressElement made value domain
    mac_in e value domain p text_is domain_is = record {
      children = blank;
      text = mac_address_text value;
      text_is = text_is;
      means = mac_address_spelled value (record { number = p.means.six; below = p.means.bytes });
      domain_is = domain_is;
    }

  identity_again : (e : Element) (name : List ℕ) (kind : IdentityType) (other domain : List ℕ) → IsIdentity e name kind other domain
      → IsIdentity (identifier_element (Identity name kind other domain)) name kind other domain
  identity_again e name kind [] [] p =
      identity_in (identifier_element (Identity name kind [] [])) refl e name kind [] [] p refl refl refl refl
  identity_again e name kind [] (b ∷ bs) p =
      identity_in (identifier_element (Identity name kind [] (b ∷ bs))) refl e name kind [] (b ∷ bs) p refl refl refl refl
  identity_again e name kind (o ∷ os) [] p =
      identity_in (identifier_element (Identity name kind (o ∷ os) [])) refl e name kind (o ∷ os) [] p refl refl refl refl
  identity_again e name kind (o ∷ os) (b ∷ bs) p =
      identity_in (identifier_element (Identity name kind (o ∷ os) (b ∷ bs))) refl e name kind (o ∷ os) (b ∷ bs) p refl refl refl refl

  v4_again : (e : Element) (value domain : List ℕ) → IsIpAddress (codes "IPv4") IsIpV4 e value domain
      → IsIpAddress (codes "IPv4") IsIpV4 (identifier_element (IpV4 value domain)) value domain
  v4_again e value [] p = v4_in (identifier_element (IpV4 value [])) refl e value [] p refl refl refl
  v4_again e value (b ∷ bs) p = v4_in (identifier_element (IpV4 value (b ∷ bs))) refl e value (b ∷ bs) p refl refl refl

  v6_again : (e : Element) (value domain : List ℕ) → IsIpAddress (codes "IPv6") IsIpV6 e value domain
      → IsIpAddress (codes "IPv6") IsIpV6 (identifier_element (IpV6 value domain)) value domain
  v6_again e value [] p = v6_in (identifier_element (IpV6 value [])) refl e value [] p refl refl refl
  v6_again e value (b ∷ bs) p = v6_in (identifier_element (IpV6 value (b ∷ bs))) refl e value (b ∷ bs) p refl refl refl

  mac_again : (e : Element) (value domain : List ℕ) → IsMacAddressElement e value domain
      → IsMacAddressElement (identifier_element (MacAddress value domain)) value domain
  mac_again e value [] p = mac_in (identifier_element (MacAddress value [])) refl e value [] p refl refl
  mac_again e value (b ∷ bs) p = mac_in (identifier_element (MacAddress value (b ∷ bs))) refl e value (b ∷ bs) p refl refl

  parts_again : (e : Element) (i : Identifier) → HasParts e i → HasParts (identifier_element i) i
  parts_again e (AccessRequest name domain) p = access_request_again e name domain p
  parts_again e (Device name) p = device_again e name p
  parts_again e (Identity name kind other domain) p = identity_again e name kind other domain p
  parts_again e (IpV4 value domain) p = v4_again e value domain p
  parts_again e (IpV6 value domain) p = v6_again e value domain p
  parts_again e (MacAddress value domain) p = mac_again e value domain p

  -- ---- the element is of its kind, with the attributes that this allows

  named_again : (i : Identifier) → (identifier_element i).name ≡ bare_name (kind_name (identifier_kind i))
  named_again (AccessRequest name domain) = refl
  named_again (Device name) = refl
  named_again (Identity name kind other domain) = refl
  named_again (IpV4 value domain) = refl
  named_again (IpV6 value domain) = refl
  named_again (MacAddress value domain) = refl

  only_again : (i : Identifier) → IsTrue (has_only (allowed_attributes (identifier_kind i)) (identifier_element i))
  only_again (AccessRequest name []) = refl
  only_again (AccessRequest name (b ∷ bs)) = refl
  only_again (Device name) = refl
  only_again (Identity name kind [] []) = refl
  only_again (Identity name kind [] (b ∷ bs)) = refl
  only_again (Identity name kind (o ∷ os) []) = refl
  only_again (Identity name kind (o ∷ os) (b ∷ bs)) = refl
  only_again (IpV4 value []) = refl
  only_again (IpV4 value (b ∷ bs)) = refl
  only_again (IpV6 value []) = refl
  only_again (IpV6 value (b ∷ bs)) = refl
  only_again (MacAddress value []) = refl
  only_again (MacAddress value (b ∷ bs)) = refl

  pub read_back : (i : Identifier) → IsIdentifier i → IsCanon (identifier_element i) i
  read_back i is = record {
    meant = record { named = named_again i; attributes = only_again i; parts = parts_again is.element i is.canon.meant.parts };
    within = is.canon.within;
  }
