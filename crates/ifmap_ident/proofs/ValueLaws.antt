-- What an identifier is made of is characters that a document can have, where an element gave it that a document can have.
-- 1. The text of an address.
-- 2. A value that an element gives: a name, a type, a definition, a domain.
-- 3. The name of a domain, character by character: the full stops at its end are cut, and its letters are lowered.
-- 4. So is the name that is kept, also where it is the canonical bytes of an element.
use Rattle.std.proofs.Common.{◌≡◌, ℕ, ◌<◌, ◌≤◌, ◌==◌, ◌&&◌, Bool, true, false, not, cond, List, [], ◌∷◌, ◌++◌, map, Option, None, Some, option_map, codes, unwrap_or, refl, sym, ◌∙◌, ap, subst, inl, inr, arith}
use Rattle.std.specs.Prelude.{encode_utf8, encode_utf8_all}
use Rattle.std.specs.Char.{to_ascii_lowercase}
use Rattle.std.specs.List.{AllByRecursion, find, list_all}
use Rattle.std.proofs.lemmas.Bool.{cases_Bool, cases_lt, not-true}
use Rattle.std.proofs.lemmas.Bool.Decides.{nat_tests}
use Rattle.std.proofs.lemmas.List.{map-append}
use Rattle.std.proofs.lemmas.Str.{encode_ascii}
use Rattle.ifmap_elem.specs.Building.{is_bare}
use Rattle.ifmap_elem.specs.Chars.{AllAre, IsCharacters, is_character}
use Rattle.ifmap_elem.specs.Fit.{IsFit, IsFitAttribute}
use Rattle.ifmap_elem.specs.Spells.{Spells}
use Rattle.ifmap_elem.specs.declared.elements.Attribute.{Attribute}
use Rattle.ifmap_elem.specs.declared.elements.Element.{Element}
use Rattle.ifmap_elem.specs.declared.readings.Reading.{Reading}
use Rattle.ifmap_elem.specs.laws.FitLaws.{fit_parts}
use Rattle.ifmap_ident.specs.declared.kinds.IdentityType.{IdentityType}
use Rattle.ifmap_ident.specs.declared.kinds.IdentityType.TheVariants as types
use Rattle.ifmap_ident.specs.declared.names.NameForm.{NameForm}
use Rattle.ifmap_ident.specs.declared.names.NameForm.TheVariants.{Literal, Domain, Spelled}
use Rattle.ifmap_ident.specs.Canon.{IsDefinition, domain_of}
use Rattle.ifmap_ident.specs.IdentityNames.{IsKeptName, domain_name, without_last_dots}
use Rattle.ifmap_ident.specs.Parts.{value_of}
use Rattle.ifmap_ident.proofs.DotLaws.{dot_encoded, is_dot}
use Rattle.ifmap_ident.proofs.Utf8Laws.{canonical_characters}
use Rattle.ifmap_lemmas.specs.Numbers.{equal_numbers}
use Rattle.ifmap_addresses.specs.Values.{IsAddressByte}
use Rattle.ifmap_lemmas.specs.Filters as filters
use Rattle.ifmap_lemmas.specs.Texts.{ascii_encoded, is_ascii}
use Rattle.std.proofs.lemmas.Option.{same_Some}
use Rattle.ifmap_elem.specs.laws.CharacterLaws.{is_plain, plain_characters, characters_both, character_passes, one_character, no_characters}
use Rattle.std.specs.Str.{byte}

-- ---- addresses

plain_is_ascii : (b : ℕ) → IsAddressByte b → is_ascii b ≡ true
plain_is_ascii b h = grind (arith, nat_tests)

plain_is_character : (b : ℕ) → IsAddressByte b → is_character b ≡ true
plain_is_character b h = grind (arith, nat_tests)

pub address_characters : (text : List ℕ) → AllByRecursion IsAddressByte text → IsCharacters text
address_characters text h = (
  text,
  ascii_encoded text (filters.all_weaker IsAddressByte (λ b. is_ascii b ≡ true) plain_is_ascii text h),
  filters.all_weaker IsAddressByte (λ b. is_character b ≡ true) plain_is_character text h,
)

-- ---- values

found_by_case : (x : Attribute) (b : Bool) (rest : Option Attribute) (text : List ℕ) → IsCharacters x.value
    → (option_map (λ a. a.value) rest ≡ Some text → IsCharacters text) → option_map (λ a. a.value) (cond b (Some x) rest) ≡ Some text
    → IsCharacters text
found_by_case x true rest text here later e = subst IsCharacters (same_Some x.value text e) here
found_by_case x false rest text here later e = later e

found_characters : (p : Attribute → Bool) (xs : List Attribute) (text : List ℕ) → AllByRecursion IsFitAttribute xs
    → option_map (λ a. a.value) (find p xs) ≡ Some text → IsCharacters text
found_characters p [] text f e = absurd cc
found_characters p (x ∷ xs) text f e = found_by_case x (p x) (find p xs) text f.0.value (found_characters p xs text f.1) e

pub value_characters : (local : List ℕ) (e : Element) (text : List ℕ) → IsFit e → value_of local e ≡ Some text → IsCharacters text
value_characters local e text fit is =
    found_characters (λ a. is_bare local a.name) e.attributes text (fit_parts e fit).0.attributes is

or_empty : (given : Option (List ℕ)) → ((text : List ℕ) → given ≡ Some text → IsCharacters text) → IsCharacters (unwrap_or given [])
or_empty None f = no_characters
or_empty (Some text) f = f text refl

pub domain_characters : (e : Element) (domain : List ℕ) → IsFit e → domain ≡ domain_of e → IsCharacters domain
domain_characters e domain fit is =
    subst IsCharacters (sym is) (or_empty (value_of (codes "administrative-domain") e)
    (λ text. value_characters (codes "administrative-domain") e text fit))

pub definition_characters : (kind : IdentityType) (given : Option (List ℕ)) (other : List ℕ)
    → ((text : List ℕ) → given ≡ Some text → IsCharacters text) → IsDefinition kind given other → IsCharacters other
definition_characters types.Other given other f d = f other d.0
definition_characters types.AikName given other f d = subst IsCharacters (sym d) no_characters
definition_characters types.DistinguishedName given other f d = subst IsCharacters (sym d) no_characters
definition_characters types.DnsName given other f d = subst IsCharacters (sym d) no_characters
definition_characters types.EmailAddress given other f d = subst IsCharacters (sym d) no_characters
definition_characters types.HipHit given other f d = subst IsCharacters (sym d) no_characters
definition_characters types.KerberosPrincipal given other f d = subst IsCharacters (sym d) no_characters
definition_characters types.Username given other f d = subst IsCharacters (sym d) no_characters
definition_characters types.SipUri given other f d = subst IsCharacters (sym d) no_characters
definition_characters types.TelUri given other f d = subst IsCharacters (sym d) no_characters

-- ---- names of domains

over_by_case : (t u : Bool) (b : ℕ) (ys zs : List ℕ) → t ≡ false → ys ≡ zs → cond (t && u) [] (b ∷ ys) ≡ b ∷ zs
over_by_case true u b ys zs e q = absurd cc
over_by_case false u b ys zs e q = ap (λ x. b ∷ x) q

over_others : (xs rest : List ℕ) → AllAre (λ b. not (is_dot b)) xs → without_last_dots (xs ++ rest) ≡ xs ++ without_last_dots rest
over_others [] rest f = refl
over_others (b ∷ xs) rest f =
    over_by_case (is_dot b) (list_all is_dot (xs ++ rest)) b (without_last_dots (xs ++ rest)) (xs ++ without_last_dots rest)
    (not-true (is_dot b) f.0) (over_others xs rest f.1)

high_is_no_dot : (b : ℕ) → 128 ≤ b → not (is_dot b) ≡ true
high_is_no_dot b h = grind (arith, nat_tests)

dot_first : (t : Bool) (xs : List ℕ) → IsCharacters xs → IsCharacters (cond t [] (byte "." ∷ xs))
dot_first true xs h = no_characters
dot_first false xs h = characters_both (byte "." ∷ []) xs (plain_characters (byte "." ∷ []) (refl, tt)) h

dots_cut : (cs : List ℕ) → AllAre is_character cs → IsCharacters (without_last_dots (encode_utf8_all cs))
dots_cut [] f = no_characters
dots_cut (c ∷ cs) f = elim (cases_Bool (is_dot c)) [
  | inl dot ↦ subst (λ (x : List ℕ). IsCharacters (without_last_dots (x ++ encode_utf8_all cs)))
      (sym (ap encode_utf8 (equal_numbers c (byte ".") dot) ∙ dot_encoded))
      (dot_first (list_all is_dot (byte "." ∷ encode_utf8_all cs)) (without_last_dots (encode_utf8_all cs)) (dots_cut cs f.1))
  | inr other ↦ subst IsCharacters
      (sym (over_others (encode_utf8 c) (encode_utf8_all cs)
      (character_passes (λ b. not (is_dot b)) high_is_no_dot c (ap not other))))
      (characters_both (encode_utf8 c) (without_last_dots (encode_utf8_all cs)) (one_character c f.0) (dots_cut cs f.1))
]

abbrev is_lower : ℕ → Bool
is_lower b = to_ascii_lowercase b == b

high_is_lower : (b : ℕ) → 128 ≤ b → is_lower b ≡ true
high_is_lower b h = grind (arith, nat_tests)

lower_is_plain : (b : ℕ) → b < 128 → is_character b ≡ true → is_plain (to_ascii_lowercase b) ≡ true
lower_is_plain b l h = grind (arith, nat_tests)

lower_itself : (xs : List ℕ) → AllAre is_lower xs → map to_ascii_lowercase xs ≡ xs
lower_itself [] f = refl
lower_itself (b ∷ xs) f = λ i. equal_numbers (to_ascii_lowercase b) b f.0 i ∷ lower_itself xs f.1 i

lower_one : (c : ℕ) → is_character c ≡ true → IsCharacters (map to_ascii_lowercase (encode_utf8 c))
lower_one c h = elim (cases_lt c 128) [
  | inl l ↦ subst (λ (x : List ℕ). IsCharacters (map to_ascii_lowercase x)) (sym (encode_ascii c l))
      (plain_characters (to_ascii_lowercase c ∷ []) (lower_is_plain c l h, tt))
  | inr g ↦ subst IsCharacters (sym (lower_itself (encode_utf8 c) (character_passes is_lower high_is_lower c (high_is_lower c g))))
      (one_character c h)
]

lower_all : (cs : List ℕ) → AllAre is_character cs → IsCharacters (map to_ascii_lowercase (encode_utf8_all cs))
lower_all [] f = no_characters
lower_all (c ∷ cs) f =
    subst IsCharacters (sym (map-append to_ascii_lowercase (encode_utf8 c) (encode_utf8_all cs)))
    (characters_both (map to_ascii_lowercase (encode_utf8 c)) (map to_ascii_lowercase (encode_utf8_all cs)) (lower_one c f.0)
    (lower_all cs f.1))

domain_name_characters : (text : List ℕ) → IsCharacters text → IsCharacters (domain_name text)
domain_name_characters text i =
    let cut : IsCharacters (without_last_dots text) =
    subst (λ (x : List ℕ). IsCharacters (without_last_dots x)) i.1 (dots_cut i.0 i.2) in
    subst (λ (x : List ℕ). IsCharacters (map to_ascii_lowercase x)) cut.1 (lower_all cut.0 cut.2)

-- ---- names that are kept

pub kept_characters : ((bytes : List ℕ) (r : Reading) → Spells bytes r → IsFit r.root) → (form : NameForm) (text name : List ℕ)
    → IsCharacters text → IsKeptName form text name → IsCharacters name
kept_characters fits Literal text name h kept = subst IsCharacters (sym kept) h
kept_characters fits Domain text name h kept = subst IsCharacters (sym kept) (domain_name_characters text h)
kept_characters fits Spelled text name h kept =
    subst IsCharacters (sym kept.canonical) (canonical_characters kept.reading.root (fits text kept.reading kept.spelled))
