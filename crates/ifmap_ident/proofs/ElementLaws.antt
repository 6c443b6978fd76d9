-- The element of an identifier has its attributes in order and two levels at most; and where an element gave the identifier that a
-- document can have, a document can have this one too.
-- 1. The attributes of each variant's element in order, and its levels.
-- 2. An element without children fits, of attributes with names that are spelled out.
-- 3. A device's element, and the name in the one that gave it.
-- 4. The element of each variant.
use Rattle.std.proofs.Common.{◌≡◌, ◌≢◌, ℕ, suc, ◌≤◌, ◌&&◌, Bool, true, false, not, List, [], ◌∷◌, ◌++◌, map, codes, refl, sym, ◌∙◌, ap, subst, arith, append-nil}
use Rattle.std.specs.List.{AllByRecursion, filter, flat_map, list_all}
use Rattle.std.specs.Str.{bytes_eq}
use Rattle.std.proofs.lemmas.Bool.{and_from, and_parts, not-true}
use Rattle.ifmap_addresses.specs.IpV4.{IsIpV4, ip_v4_text}
use Rattle.ifmap_addresses.specs.IpV4Laws.{ip_v4_plain}
use Rattle.ifmap_addresses.specs.IpV6.{ip_v6_text}
use Rattle.ifmap_addresses.specs.IpV6Laws.{ip_v6_fits, ip_v6_plain}
use Rattle.ifmap_addresses.specs.MacAddresses.{mac_address_text}
use Rattle.ifmap_addresses.specs.MacAddressLaws.{mac_address_plain}
use Rattle.ifmap_addresses.specs.Values.{AreBelow}
use Rattle.ifmap_elem.specs.Arranged.{arrange, arrange_child, sort_attributes}
use Rattle.ifmap_elem.specs.Building.{bare_attribute, bare_element, bare_name, is_bare, is_name}
use Rattle.ifmap_elem.specs.Chars.{IsCharacters}
use Rattle.ifmap_elem.specs.Fit.{AreFitChildren, HasCharacters, IsFit, IsFitAlone, IsFitAttribute, IsFitName}
use Rattle.ifmap_elem.specs.Folds.{at_child_element, at_child_text, at_element}
use Rattle.ifmap_elem.specs.Names.{is_name_character, is_name_start}
use Rattle.ifmap_elem.specs.Nesting.{child_levels, child_nesting, element_levels, greatest_of, nesting}
use Rattle.ifmap_elem.specs.Scopes.{AllDiffer}
use Rattle.ifmap_elem.specs.Spells.{Spells}
use Rattle.ifmap_elem.specs.declared.elements.Attribute.{Attribute}
use Rattle.ifmap_elem.specs.declared.elements.Child.{Child, out-Child}
use Rattle.ifmap_elem.specs.declared.elements.Child as the
use Rattle.ifmap_elem.specs.declared.elements.Element.{Element}
use Rattle.ifmap_elem.specs.declared.elements.Name.{Name}
use Rattle.ifmap_elem.specs.declared.readings.Reading.{Reading}
use Rattle.ifmap_elem.specs.laws.ArrangedLaws.{arranged_is, out_element}
use Rattle.ifmap_elem.specs.laws.FitLaws.{elements_in, elements_of_child, elements_text, fit_parts, fit_whole, out_text, no_namespace}
use Rattle.ifmap_ident.specs.declared.identifiers.Identifier.{Identifier}
use Rattle.ifmap_ident.specs.declared.identifiers.Identifier.TheVariants.{AccessRequest, Device, Identity, IpV4, IpV6, MacAddress}
use Rattle.ifmap_ident.specs.declared.kinds.IdentityType.{IdentityType}
use Rattle.ifmap_ident.specs.Canon.{HasParts, IsDevice, IsIdentifier}
use Rattle.ifmap_ident.specs.Identifiers.{domain_attributes, identifier_element}
use Rattle.ifmap_ident.specs.IdentityNames.{name_form}
use Rattle.ifmap_ident.specs.Kinds.{identity_type_name}
use Rattle.ifmap_ident.specs.Parts.{is_solid, value_of}
use Rattle.ifmap_ident.proofs.FindLaws.{bare_itself}
use Rattle.ifmap_ident.proofs.PrintedLaws.{arranged_outer, name_inside, device_of}
use Rattle.ifmap_ident.proofs.ValueLaws.{address_characters, definition_characters, domain_characters, kept_characters, value_characters}
use Rattle.ifmap_lemmas.specs.Members.{all_both, all_of_test, both_all}
use Rattle.ifmap_lemmas.specs.Texts.{ascii_encoded, eq_itself, is_ascii}
use Rattle.ifmap_lemmas.specs.Apart.{told_apart}
use Rattle.ifmap_lemmas.specs.Runs.{below_at}
use Rattle.ifmap_elem.specs.laws.CharacterLaws.{is_plain, plain_characters}
use Rattle.ifmap_elem.specs.laws.BareNames.{another_bare}

-- ---- order and levels

in_order : (e : Element) → e.children ≡ [] → sort_attributes e.attributes ≡ e.attributes → arrange e ≡ e
in_order e none sorted =
    arranged_is e
    ∙ (λ i. record { name = e.name; attributes = sorted i; children = (ap (map arrange_child) none ∙ sym none) i })

pub element_arranged : (i : Identifier) → arrange (identifier_element i) ≡ identifier_element i
element_arranged (AccessRequest name []) = in_order (identifier_element (AccessRequest name [])) refl refl
element_arranged (AccessRequest name (b ∷ d)) = in_order (identifier_element (AccessRequest name (b ∷ d))) refl refl
element_arranged (Device name) = arranged_outer name
element_arranged (Identity name kind [] []) = in_order (identifier_element (Identity name kind [] [])) refl refl
element_arranged (Identity name kind [] (b ∷ d)) = in_order (identifier_element (Identity name kind [] (b ∷ d))) refl refl
element_arranged (Identity name kind (o ∷ os) []) = in_order (identifier_element (Identity name kind (o ∷ os) [])) refl refl
element_arranged (Identity name kind (o ∷ os) (b ∷ d)) = in_order (identifier_element (Identity name kind (o ∷ os) (b ∷ d))) refl refl
element_arranged (IpV4 value []) = in_order (identifier_element (IpV4 value [])) refl refl
element_arranged (IpV4 value (b ∷ d)) = in_order (identifier_element (IpV4 value (b ∷ d))) refl refl
element_arranged (IpV6 value []) = in_order (identifier_element (IpV6 value [])) refl refl
element_arranged (IpV6 value (b ∷ d)) = in_order (identifier_element (IpV6 value (b ∷ d))) refl refl
element_arranged (MacAddress value []) = in_order (identifier_element (MacAddress value [])) refl refl
element_arranged (MacAddress value (b ∷ d)) = in_order (identifier_element (MacAddress value (b ∷ d))) refl refl

levels_are : (e : Element) (many : ℕ) → greatest_of (map child_nesting e.children) ≡ many → nesting e ≡ suc many
levels_are e many is = at_element ℕ ℕ child_levels element_levels e ∙ ap suc is

one_level : (e : Element) → e.children ≡ [] → nesting e ≤ 2
one_level e none =
    let is : nesting e ≡ 1 = levels_are e 0 (ap (λ cs. greatest_of (map child_nesting cs)) none) in omega (arith, is)

inner_levels : (name : List ℕ) → nesting (name_inside name) ≡ 1
inner_levels name = levels_are (name_inside name) 0 (ap (λ n. greatest_of (n ∷ [])) (at_child_text ℕ ℕ child_levels element_levels name))

outer_levels : (name : List ℕ) → nesting (device_of name) ≤ 2
outer_levels name =
    let is : nesting (device_of name) ≡ 2 = levels_are (device_of name) 1
    (ap (λ n. greatest_of (n ∷ [])) (at_child_element ℕ ℕ child_levels element_levels (name_inside name) ∙ inner_levels name)) in
    omega (arith, is)

pub element_levels_within : (i : Identifier) → nesting (identifier_element i) ≤ 2
element_levels_within (AccessRequest name domain) = one_level (identifier_element (AccessRequest name domain)) refl
element_levels_within (Device name) = outer_levels name
element_levels_within (Identity name kind other domain) = one_level (identifier_element (Identity name kind other domain)) refl
element_levels_within (IpV4 value domain) = one_level (identifier_element (IpV4 value domain)) refl
element_levels_within (IpV6 value domain) = one_level (identifier_element (IpV6 value domain)) refl
element_levels_within (MacAddress value domain) = one_level (identifier_element (MacAddress value domain)) refl

-- ---- elements of attributes alone

closed_name : (first : ℕ) (others : List ℕ) → list_all is_ascii (first ∷ others) ≡ true → is_name_start first ≡ true
    → list_all is_name_character others ≡ true → IsFitName (bare_name (first ∷ others))
closed_name first others ascii begins goes_on = record {
  space = no_namespace;
  local = record {
    first = first;
    others = others;
    bytes_are = ascii_encoded (first ∷ others) (all_of_test is_ascii (first ∷ others) ascii);
    begins = begins;
    goes_on = all_of_test is_name_character others goes_on;
  };
}

is_plain_name : List ℕ → Bool
is_plain_name [] = false
is_plain_name (first ∷ others) = (list_all is_ascii (first ∷ others) && is_name_start first) && list_all is_name_character others

plain_name : (local : List ℕ) → is_plain_name local ≡ true → IsFitName (bare_name local)
unfolding is_plain_name
plain_name [] h = absurd cc
plain_name (first ∷ others) h =
    let parts = and_parts (list_all is_ascii (first ∷ others) && is_name_start first) (list_all is_name_character others) h in
    let front = and_parts (list_all is_ascii (first ∷ others)) (is_name_start first) parts.0 in
    closed_name first others front.0 front.1 parts.1

plain_attribute : (local : List ℕ) → is_plain_name local ≡ true → is_bare local (bare_name (codes "xmlns")) ≡ false → (value : List ℕ)
    → IsCharacters value → IsFitAttribute (bare_attribute local value)
plain_attribute local plain other value h = record {
  name = plain_name local plain;
  no_declaration = another_bare local (bare_name (codes "xmlns")) (bare_itself local) other;
  value = h;
}

names_apart : List Name → Bool
names_apart [] = true
names_apart (x ∷ xs) = list_all (λ y. not (is_name x y)) xs && names_apart xs

other_names : (x y : Name) → not (is_name x y) ≡ true → x ≢ y
other_names x y h e =
    let here : is_name x x ≡ true = and_from (bytes_eq x.space x.space) (bytes_eq x.local x.local)
    (eq_itself x.space) (eq_itself x.local) in
    let there : is_name x x ≡ is_name x y = ap (is_name x) e in
    let differ : is_name x y ≡ false = not-true (is_name x y) h in
    cc

others_differ : (x : Name) (xs : List Name) → AllByRecursion (λ y. not (is_name x y) ≡ true) xs → AllByRecursion (λ y. x ≢ y) xs
others_differ x [] f = tt
others_differ x (y ∷ ys) f = (other_names x y f.0, others_differ x ys f.1)

all_differ : (xs : List Name) → names_apart xs ≡ true → AllDiffer xs
unfolding names_apart
all_differ [] h = tt
all_differ (x ∷ xs) h =
    let parts = and_parts (list_all (λ y. not (is_name x y)) xs) (names_apart xs) h in
    (others_differ x xs (all_of_test (λ y. not (is_name x y)) xs parts.0), all_differ xs parts.1)

attributes_fit : (local : List ℕ) (attributes : List Attribute) → is_plain_name local ≡ true
    → names_apart (map (λ a. a.name) attributes) ≡ true → AllByRecursion IsFitAttribute attributes
    → IsFit (bare_element local attributes [])
attributes_fit local attributes plain differ fit =
    fit_whole (bare_element local attributes []) (record {
      name = plain_name local plain;
      attributes = fit;
      names_differ = all_differ (map (λ a. a.name) attributes) differ;
      children = record { texts = tt; apart = tt; beside = λ any. tt };
    }) tt

abbrev Fits : List ℕ → Type 0
Fits local = (value : List ℕ) → IsCharacters value → IsFitAttribute (bare_attribute local value)

name_fits : Fits (codes "name")
unfolding is_plain_name
name_fits = plain_attribute (codes "name") refl refl

type_fits : Fits (codes "type")
unfolding is_plain_name
type_fits = plain_attribute (codes "type") refl refl

value_fits : Fits (codes "value")
unfolding is_plain_name
value_fits = plain_attribute (codes "value") refl refl

domain_fits : Fits (codes "administrative-domain")
unfolding is_plain_name
domain_fits = plain_attribute (codes "administrative-domain") refl refl

other_fits : Fits (codes "other-type-definition")
unfolding is_plain_name
other_fits = plain_attribute (codes "other-type-definition") refl refl

access_request_fits : (name domain : List ℕ) → IsCharacters name → IsCharacters domain
    → IsFit (identifier_element (AccessRequest name domain))
unfolding is_plain_name names_apart
access_request_fits name [] n d = attributes_fit (codes "access-request") _ refl refl (name_fits name n, tt)
access_request_fits name (b ∷ bs) n d =
    attributes_fit (codes "access-request") _ refl refl (domain_fits (b ∷ bs) d, (name_fits name n, tt))

identity_fits : (name : List ℕ) (kind : IdentityType) (other domain : List ℕ) → IsCharacters name
    → IsCharacters (identity_type_name kind) → IsCharacters other → IsCharacters domain
    → IsFit (identifier_element (Identity name kind other domain))
unfolding is_plain_name names_apart
identity_fits name kind [] [] n k o d =
    attributes_fit (codes "identity") _ refl refl (name_fits name n, (type_fits (identity_type_name kind) k, tt))
identity_fits name kind [] (b ∷ bs) n k o d =
    attributes_fit (codes "identity") _ refl refl
    (domain_fits (b ∷ bs) d, (name_fits name n, (type_fits (identity_type_name kind) k, tt)))
identity_fits name kind (c ∷ cs) [] n k o d =
    attributes_fit (codes "identity") _ refl refl
    (name_fits name n, (other_fits (c ∷ cs) o, (type_fits (identity_type_name kind) k, tt)))
identity_fits name kind (c ∷ cs) (b ∷ bs) n k o d =
    attributes_fit (codes "identity") _ refl refl
    (domain_fits (b ∷ bs) d, (name_fits name n, (other_fits (c ∷ cs) o, (type_fits (identity_type_name kind) k, tt))))

address_fits : (type value domain : List ℕ) → IsCharacters type → IsCharacters value → IsCharacters domain → IsFit (bare_element
    (codes "ip-address")
    (domain_attributes domain ++ (bare_attribute (codes "type") type ∷ (bare_attribute (codes "value") value ∷ []))) [])
unfolding is_plain_name names_apart
address_fits type value [] t v d =
    attributes_fit (codes "ip-address") _ refl refl (type_fits type t, (value_fits value v, tt))
address_fits type value (b ∷ bs) t v d =
    attributes_fit (codes "ip-address") _ refl refl (domain_fits (b ∷ bs) d, (type_fits type t, (value_fits value v, tt)))

pub mac_fits : (value domain : List ℕ) → IsCharacters (mac_address_text value) → IsCharacters domain
    → IsFit (identifier_element (MacAddress value domain))
unfolding is_plain_name names_apart
mac_fits value [] v d = attributes_fit (codes "mac-address") _ refl refl (value_fits (mac_address_text value) v, tt)
mac_fits value (b ∷ bs) v d =
    attributes_fit (codes "mac-address") _ refl refl (domain_fits (b ∷ bs) d, (value_fits (mac_address_text value) v, tt))

-- ---- devices

inner_fits : (name : List ℕ) → IsCharacters name → name ≢ [] → IsFit (name_inside name)
unfolding is_plain_name
inner_fits name h some =
    fit_whole (name_inside name) (record {
      name = plain_name (codes "name") refl;
      attributes = tt;
      names_differ = tt;
      children = subst AreFitChildren (ap (λ x. x ∷ []) (sym (out_text name)))
          (record { texts = ((some, h), tt); apart = tt; beside = λ any. cc });
    }) (subst (λ (es : List Element). AllByRecursion IsFitAlone (es ++ [])) (sym (elements_text name)) tt)

outer_fits : (name : List ℕ) → IsCharacters name → name ≢ [] → IsFit (device_of name)
unfolding is_plain_name
outer_fits name h some =
    fit_whole (device_of name) (record {
      name = plain_name (codes "device") refl;
      attributes = tt;
      names_differ = tt;
      children = subst AreFitChildren (ap (λ x. x ∷ []) (sym (out_element (name_inside name))))
          (record { texts = (tt, tt); apart = tt; beside = λ any. (tt, tt) });
    }) (subst (AllByRecursion IsFitAlone)
    (sym (append-nil (elements_of_child (the.Element (name_inside name))) ∙ elements_in (name_inside name)))
    (inner_fits name h some))

filter_by_case : (p : Child → Bool) (c : Child) (cs : List Child) (b : Bool) → p c ≡ b → AllByRecursion IsFitAlone (elements_of_child c)
    → AllByRecursion IsFitAlone (flat_map elements_of_child (filter p cs))
    → AllByRecursion IsFitAlone (flat_map elements_of_child (filter p (c ∷ cs)))
filter_by_case p c cs true e here later =
    rw e (both_all IsFitAlone (elements_of_child c) (flat_map elements_of_child (filter p cs)) here later)
filter_by_case p c cs false e here later = rw e later

filtered_fit : (p : Child → Bool) (cs : List Child) → AllByRecursion IsFitAlone (flat_map elements_of_child cs)
    → AllByRecursion IsFitAlone (flat_map elements_of_child (filter p cs))
filtered_fit p [] f = tt
filtered_fit p (c ∷ cs) f =
    let parts = all_both IsFitAlone (elements_of_child c) (flat_map elements_of_child cs) f in
    filter_by_case p c cs (p c) refl parts.0 (filtered_fit p cs parts.1)

device_name_characters : (e : Element) (name : List ℕ) → IsFit e → IsDevice e name → IsCharacters name
device_name_characters e name fit p =
    let inside = filtered_fit is_solid e.children (fit_parts e fit).1 in
    let alone : AllByRecursion IsFitAlone (flat_map elements_of_child (the.Element p.child ∷ [])) =
    subst (λ (cs : List Child). AllByRecursion IsFitAlone (flat_map elements_of_child cs)) p.children inside in
    let child : IsFit p.child =
    subst (AllByRecursion IsFitAlone) (append-nil (elements_of_child (the.Element p.child)) ∙ elements_in p.child) alone in
    let texts : AllByRecursion HasCharacters (map out-Child p.child.children) = (fit_parts p.child child).0.children.texts in
    let text : AllByRecursion HasCharacters (out-Child (the.Text name) ∷ []) =
    subst (λ (cs : List Child). AllByRecursion HasCharacters (map out-Child cs)) p.holds.text_is texts in
    let held : HasCharacters (out-Child (the.Text name)) = text.0 in
    (subst HasCharacters (out_text name) held).1

-- ---- identifiers

module _ (fits : (bytes : List ℕ) (r : Reading) → Spells bytes r → IsFit r.root)
    (v4_size : (text value : List ℕ) → IsIpV4 text value → AreBelow 256 4 value) where
  parts_fit : (e : Element) (i : Identifier) → IsFit e → HasParts e i → IsFit (identifier_element i)
  parts_fit e (AccessRequest name domain) fit p =
      access_request_fits name domain (value_characters (codes "name") e name fit p.name_is)
      (domain_characters e domain fit p.domain_is)
  parts_fit e (Device name) fit p = outer_fits name (device_name_characters e name fit p) p.holds.not_empty
  parts_fit e (Identity name kind other domain) fit p =
      identity_fits name kind other domain
      (kept_characters fits (name_form kind other) p.text name (value_characters (codes "name") e p.text fit p.text_is) p.kept)
      (value_characters (codes "type") e (identity_type_name kind) fit p.kind_is)
      (definition_characters kind (value_of (codes "other-type-definition") e) other
      (λ text. value_characters (codes "other-type-definition") e text fit) p.definition)
      (domain_characters e domain fit p.domain_is)
  parts_fit e (IpV4 value domain) fit p =
      let size = v4_size p.text value p.means in
      address_fits (codes "IPv4") (ip_v4_text value) domain
      (plain_characters (codes "IPv4") (all_of_test is_plain (codes "IPv4") refl))
      (address_characters (ip_v4_text value) (ip_v4_plain value (below_at 256 value (omega arith) size.below)))
      (domain_characters e domain fit p.domain_is)
  parts_fit e (IpV6 value domain) fit p =
      let size = ip_v6_fits p.text value p.means in
      address_fits (codes "IPv6") (ip_v6_text value) domain
      (plain_characters (codes "IPv6") (all_of_test is_plain (codes "IPv6") refl))
      (address_characters (ip_v6_text value) (ip_v6_plain value size.below))
      (domain_characters e domain fit p.domain_is)
  parts_fit e (MacAddress value domain) fit p =
      mac_fits value domain (address_characters (mac_address_text value) (mac_address_plain value p.means.bytes))
      (domain_characters e domain fit p.domain_is)

  pub element_fits : (i : Identifier) → IsIdentifier i → IsFit (identifier_element i)
  element_fits i is = parts_fit is.element i is.fit is.canon.meant.parts
