-- What is made of an element that a client can send is metadata, and what is stamped of metadata is whole.
-- 1. Attributes that are filtered still differ, so the content of an element that fits, fits.
-- 2. So what is made of such an element is metadata that can be published (`made_is_metadata`).
-- 3. The publisher and the moment are characters, and the stamps that are made of them are attributes that fit.
-- 4. The names of stamps are no others of the content, so the element with its stamps fits, and so does it in order.
-- 5. What is stamped is arranged, has the same content and is whole (`stamped_is_whole`).
use Rattle.std.proofs.Common.{◌≡◌, ◌≢◌, ℕ, ◌≤◌, Bool, true, false, not, List, [], ◌∷◌, ◌++◌, map, length, codes, IsSome, refl, ap, sym, ◌∙◌, subst, arith, inl, inr}
use Rattle.std.specs.List.{AllByRecursion, filter}
use Rattle.std.specs.Str.{byte}
use Rattle.std.proofs.Common.{◌||◌, rules}
use Rattle.std.proofs.lemmas.Bool.{cases_Bool, not-true}
use Rattle.std.proofs.lemmas.Bool.Decides.{nat_tests}
use Rattle.ifmap_elem.specs.Arranged.{arrange, arrange_child, sort_attributes}
use Rattle.ifmap_elem.specs.Canonical.{canonical_bytes}
use Rattle.ifmap_elem.specs.Chars.{AllAre, IsCharacters}
use Rattle.ifmap_elem.specs.Fit.{IsFit, IsFitAlone, IsFitAttribute}
use Rattle.ifmap_elem.specs.Folds.{at_element}
use Rattle.ifmap_elem.specs.Building.{bare_name, is_bare}
use Rattle.ifmap_elem.specs.Names.{IsNamePart, is_name_character}
use Rattle.ifmap_elem.specs.Nesting.{child_levels, element_levels, nesting}
use Rattle.ifmap_elem.specs.Scopes.{AllDiffer}
use Rattle.ifmap_elem.specs.declared.elements.Attribute.{Attribute}
use Rattle.ifmap_elem.specs.declared.elements.Element.{Element}
use Rattle.ifmap_elem.specs.declared.elements.Name.{Name}
use Rattle.ifmap_elem.specs.laws.ArrangedLaws.{arranged_is}
use Rattle.ifmap_elem.specs.laws.FitLaws.{fit_arranged, fit_parts, fit_whole, nesting_arranged, no_namespace}
use Rattle.ifmap_io.specs.Calendar.{Civil, civil_of, civil_text, last_digit, moment_text}
use Rattle.ifmap_lemmas.specs.Filters.{all_filter, filter_passes}
use Rattle.ifmap_lemmas.specs.Members.{all_of_map, all_of_test, all_weaker, both_all, map_of_all}
use Rattle.ifmap_lemmas.specs.Texts.{ascii_encoded, is_ascii}
use Rattle.ifmap_meta.specs.declared.metadata.Metadata.{Metadata}
use Rattle.ifmap_meta.specs.declared.stored.Life.{Life}
use Rattle.ifmap_meta.specs.Cardinality.{cardinality_of}
use Rattle.ifmap_meta.specs.ClientNames.{IsClientName, is_client_byte}
use Rattle.ifmap_meta.specs.Keys.{content_bytes}
use Rattle.ifmap_meta.specs.Stamps.{content_of, is_stamp, stamp, stamps, stamps_of, without_stamps}
use Rattle.ifmap_meta.specs.Stored.{stored_as}
use Rattle.ifmap_meta.specs.Whole.{IsMadeOf, IsMetadata, IsSent, IsWhole, content_limit, level_limit}
use Rattle.ifmap_meta.specs.laws.ContentLaws.{content_bare, content_printed}
use Rattle.ifmap_meta.specs.laws.StampLaws.{cardinality_stays, content_says, content_stays, stamps_stay}
use Rattle.ifmap_elem.specs.laws.AgainLaws.{arranged_again}
use Rattle.ifmap_elem.specs.laws.BareNames.{another_bare}
use Rattle.ifmap_elem.specs.laws.CharacterLaws.{is_plain, plain_characters}

-- an element of these attributes, and otherwise as it is
abbrev with_attributes : Element → List Attribute → Element
with_attributes e attributes = record { name = e.name; attributes = attributes; children = e.children }

nested_alike : (e : Element) (attributes : List Attribute) → nesting (with_attributes e attributes) ≡ nesting e
nested_alike e attributes =
    at_element ℕ ℕ child_levels element_levels (with_attributes e attributes) ∙ sym (at_element ℕ ℕ child_levels element_levels e)

-- content fits

abbrev name_of : Attribute → Name
name_of a = a.name

differ_filter : (p : Attribute → Bool) (xs : List Attribute) → AllDiffer (map name_of xs) → AllDiffer (map name_of (filter p xs))
differ_filter p [] d = tt
differ_filter p (x ∷ xs) d = elim (cases_Bool (p x)) [
  | inl e ↦ rw e (
    map_of_all (λ n. x.name ≢ n) name_of (filter p xs)
        (all_filter (λ a. x.name ≢ a.name) p xs (all_of_map (λ n. x.name ≢ n) name_of xs d.0)),
    differ_filter p xs d.1,
  )
  | inr e ↦ rw e (differ_filter p xs d.1)
]

alone_with : (e : Element) (attributes : List Attribute) → IsFitAlone e → AllByRecursion IsFitAttribute attributes
    → AllDiffer (map name_of attributes) → IsFitAlone (with_attributes e attributes)
alone_with e attributes f fit differ = record { name = f.name; attributes = fit; names_differ = differ; children = f.children }

pub fit_content : (e : Element) → IsFit e → IsFit (content_of e)
fit_content e fit =
    let parts = fit_parts e fit in
    let content : Attribute → Bool = λ a. not (is_stamp a) in
    fit_whole (content_of e)
    (alone_with e (without_stamps e.attributes) parts.0 (all_filter IsFitAttribute content e.attributes parts.0.attributes)
    (differ_filter content e.attributes parts.0.names_differ))
    parts.1

-- what is made of an element that a client can send is metadata that can be published
pub made_is_metadata : (e : Element) (m : Metadata) → IsFit e → nesting e ≤ level_limit → IsMadeOf e m → IsMetadata m
made_is_metadata e m fit levels made =
    let content = arrange (content_of e) in
    let sent : IsSent content = record {
      fit = fit_arranged (content_of e) (fit_content e fit);
      levels = subst (λ (n : ℕ). n ≤ level_limit)
          (sym (nesting_arranged (content_of e) ∙ nested_alike e (without_stamps e.attributes))) levels;
      arranged = arranged_again (content_of e);
    } in
    let size : length (canonical_bytes content) ≤ content_limit = subst
    (λ (bytes : List ℕ). length bytes ≤ content_limit) (sym (content_printed e)) made.size in
    record {
      sent = subst IsSent (sym made.element) sent;
      bare = ap content_of made.element ∙ content_bare e ∙ sym made.element;
      cardinality = ap cardinality_of made.element ∙ content_says e ∙ made.cardinality;
      size = subst (λ (x : Element). length (canonical_bytes x) ≤ content_limit) (sym made.element) size;
    }

-- stamps fit

client_is_both : (b : ℕ) → is_client_byte b ≡ true → is_plain b ≡ true
client_is_both b h = grind (arith, nat_tests)

pub client_characters : (publisher : List ℕ) → IsClientName publisher → IsCharacters publisher
client_characters publisher name =
    plain_characters publisher (all_weaker is_client_byte is_plain client_is_both publisher (all_of_test is_client_byte publisher name.2))

digit_is_both : (n : ℕ) → is_plain (last_digit n) ≡ true
digit_is_both n = grind (arith, nat_tests)

moment_characters : (moment : ℕ) → IsCharacters (moment_text moment)
unfolding moment_text
moment_characters moment = plain_characters (civil_text (civil_of moment)) (all_digits (civil_of moment))
  where
    all_digits : (c : Civil) → AllAre is_plain (civil_text c)
    all_digits c = search (digit_is_both, rules)

publisher_part : IsNamePart (codes "ifmap-publisher-id")
publisher_part = record {
  first = byte "i";
  others = codes "fmap-publisher-id";
  bytes_are = ascii_encoded (codes "ifmap-publisher-id") (all_of_test is_ascii (codes "ifmap-publisher-id") refl);
  begins = refl;
  goes_on = all_of_test is_name_character (codes "fmap-publisher-id") refl;
}

timestamp_part : IsNamePart (codes "ifmap-timestamp")
timestamp_part = record {
  first = byte "i";
  others = codes "fmap-timestamp";
  bytes_are = ascii_encoded (codes "ifmap-timestamp") (all_of_test is_ascii (codes "ifmap-timestamp") refl);
  begins = refl;
  goes_on = all_of_test is_name_character (codes "fmap-timestamp") refl;
}

stamps_fit : (publisher text : List ℕ) → IsCharacters publisher → IsCharacters text
    → AllByRecursion IsFitAttribute (stamps_of publisher text)
stamps_fit publisher text who when = (
  record {
    name = record { space = no_namespace; local = publisher_part };
    no_declaration = another_bare (codes "ifmap-publisher-id") (bare_name (codes "xmlns")) refl refl;
    value = who;
  },
  (
    record {
      name = record { space = no_namespace; local = timestamp_part };
      no_declaration = another_bare (codes "ifmap-timestamp") (bare_name (codes "xmlns")) refl refl;
      value = when;
    },
    tt,
  ),
)

-- the stamps' names are no others

abbrev is_stamp_name : Name → Bool
is_stamp_name n = is_bare (codes "ifmap-publisher-id") n || is_bare (codes "ifmap-timestamp") n

another_name : (a : Attribute) (n : Name) → not (is_stamp a) ≡ true → is_stamp_name n ≡ true → a.name ≢ n
another_name a n content stamped e =
    let h : is_stamp_name a.name ≡ false = not-true (is_stamp_name a.name) content in
    let q : is_stamp_name a.name ≡ is_stamp_name n = ap is_stamp_name e in
    cc

differ_stamped : (publisher text : List ℕ) (xs : List Attribute) → AllDiffer (map name_of xs)
    → AllByRecursion (λ a. not (is_stamp a) ≡ true) xs → AllDiffer (map name_of (xs ++ stamps_of publisher text))
differ_stamped publisher text [] d content = (
  (another_bare (codes "ifmap-publisher-id") (bare_name (codes "ifmap-timestamp")) refl refl, tt),
  (tt, tt),
)
differ_stamped publisher text (x ∷ xs) d content = (
  map_of_all (λ n. x.name ≢ n) name_of (xs ++ stamps_of publisher text)
      (both_all (λ a. x.name ≢ a.name) xs (stamps_of publisher text) (all_of_map (λ n. x.name ≢ n) name_of xs d.0) (
        another_name x (bare_name (codes "ifmap-publisher-id")) content.0 refl,
        (another_name x (bare_name (codes "ifmap-timestamp")) content.0 refl, tt),
      )),
  differ_stamped publisher text xs d.1 content.1,
)

-- what is stamped, before it is put in order
abbrev unsorted_element : List ℕ → List ℕ → Element → Element
unsorted_element publisher text e = with_attributes e (without_stamps e.attributes ++ stamps_of publisher text)

unsorted_fits : (publisher text : List ℕ) (e : Element) → IsFit e → IsCharacters publisher → IsCharacters text
    → IsFit (unsorted_element publisher text e)
unsorted_fits publisher text e fit who when =
    let parts = fit_parts e fit in
    let content : Attribute → Bool = λ a. not (is_stamp a) in
    let xs = without_stamps e.attributes in
    fit_whole (unsorted_element publisher text e)
    (alone_with e (xs ++ stamps_of publisher text) parts.0
    (both_all IsFitAttribute xs (stamps_of publisher text) (all_filter IsFitAttribute content e.attributes parts.0.attributes)
    (stamps_fit publisher text who when))
    (differ_stamped publisher text xs (differ_filter content e.attributes parts.0.names_differ) (filter_passes content e.attributes)))
    parts.1

stamped_is : (publisher : List ℕ) (moment : ℕ) (e : Element) → arrange e ≡ e
    → arrange (unsorted_element publisher (moment_text moment) e) ≡ stamp publisher moment e
stamped_is publisher moment e arranged =
    let attributes = sort_attributes (without_stamps e.attributes ++ stamps publisher moment) in
    let children : map arrange_child e.children ≡ e.children = ap (λ (x : Element). x.children) (sym (arranged_is e) ∙ arranged) in
    arranged_is (unsorted_element publisher (moment_text moment) e)
    ∙ (λ i. record { name = e.name; attributes = attributes; children = children i })

content_is : (e : Element) → content_of e ≡ e → content_bytes e ≡ canonical_bytes e
unfolding content_bytes
content_is e bare = ap canonical_bytes bare

-- metadata that can be published are what is made of their own element
pub metadata_is_made : (m : Metadata) → IsMetadata m → IsMadeOf m.element m
metadata_is_made m met = record {
  element = sym (ap arrange met.bare ∙ met.sent.arranged);
  cardinality = met.cardinality;
  size = subst (λ (bytes : List ℕ). length bytes ≤ content_limit) (sym (content_is m.element met.bare)) met.size;
}

-- what is stamped of metadata that can be published is whole
pub stamped_is_whole : (m : Metadata) (publisher : List ℕ) (moment : ℕ) (life : Life) → IsMetadata m → IsClientName publisher
    → IsWhole (stored_as m.element publisher moment life)
stamped_is_whole m publisher moment life met name =
    let e = m.element in
    let u = unsorted_element publisher (moment_text moment) e in
    let sent : IsSent (arrange u) = record {
      fit = fit_arranged u (unsorted_fits publisher (moment_text moment) e met.sent.fit (client_characters publisher name)
          (moment_characters moment));
      levels = subst (λ (n : ℕ). n ≤ level_limit)
          (sym (nesting_arranged u ∙ nested_alike e (without_stamps e.attributes ++ stamps publisher moment))) met.sent.levels;
      arranged = arranged_again u;
    } in
    record {
      sent = subst IsSent (stamped_is publisher moment e met.sent.arranged) sent;
      cardinality = subst IsSome (sym (cardinality_stays publisher moment e ∙ met.cardinality)) refl;
      publisher = name;
      stamped = (moment_text moment, stamps_stay publisher moment e);
      size = subst (λ (bytes : List ℕ). length bytes ≤ content_limit)
          (sym (content_stays publisher moment e ∙ content_is e met.bare)) met.size;
    }
