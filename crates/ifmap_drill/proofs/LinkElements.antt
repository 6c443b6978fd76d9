-- The element that links carry can be published.
use Rattle.std.proofs.Common.{◌≡◌, ◌≢◌, ℕ, ◌≤◌, true, false, List, [], ◌∷◌, ◌++◌, codes, length, refl, sym, ap, ◌∙◌, arith}
use Rattle.std.proofs.lemmas.Bool.Decides.{not_from_Decides}
use Rattle.std.proofs.lemmas.Slice.Eq.{bytes_eq-Decides}
use Rattle.std.specs.List.{list_all}
use Rattle.std.specs.Str.{bytes_eq}
use Rattle.ifmap_elem.specs.Arranged.{arrange}
use Rattle.ifmap_elem.specs.Building.{bare_attribute, bare_name}
use Rattle.ifmap_elem.specs.Canonical.{canonical_bytes, element_of_parts, root_bytes}
use Rattle.ifmap_elem.specs.Fit.{IsFit, IsFitAttribute, IsNamespace}
use Rattle.ifmap_elem.specs.Folds.{at_element}
use Rattle.ifmap_elem.specs.Names.{IsNamePart, is_name_character, is_name_start}
use Rattle.ifmap_elem.specs.Namespaces.{child_spaces, declared_among, element_spaces, name_prefixes, numbered_prefixes, spaces_of}
use Rattle.ifmap_elem.specs.Nesting.{child_levels, element_levels, nesting}
use Rattle.ifmap_elem.specs.Scopes.{xmlns_space}
use Rattle.ifmap_elem.specs.declared.elements.Element.{Element}
use Rattle.ifmap_elem.specs.declared.elements.Name.{Name}
use Rattle.ifmap_elem.specs.laws.ArrangedLaws.{arranged_is}
use Rattle.ifmap_elem.specs.laws.FitLaws.{fit_whole}
use Rattle.ifmap_lemmas.specs.Members.{all_of_test}
use Rattle.ifmap_lemmas.specs.Texts.{ascii_encoded, is_ascii}
use Rattle.ifmap_meta.specs.Keys.{content_bytes}
use Rattle.ifmap_meta.specs.Whole.{IsMadeOf, IsMetadata, level_limit}
use Rattle.ifmap_meta.specs.declared.metadata.Metadata.{Metadata}
use Rattle.ifmap_drill.specs.Parts.{link_element, link_metadata}
use Rattle.ifmap_elem.specs.laws.CharacterLaws.{is_plain, plain_characters}

-- ---- it fits

plain_space : (space : List ℕ) → list_all is_plain space ≡ true → bytes_eq space space ≡ true → bytes_eq space xmlns_space ≡ false
    → IsNamespace space
plain_space space plain here there = record {
  characters = plain_characters space (all_of_test is_plain space plain);
  not_reserved = not_from_Decides _ (bytes_eq-Decides space xmlns_space) there;
}

plain_part : (first : ℕ) (others : List ℕ) → list_all is_ascii (first ∷ others) ≡ true → is_name_start first ≡ true
    → list_all is_name_character others ≡ true → IsNamePart (first ∷ others)
plain_part first others ascii begins goes_on = record {
  first = first;
  others = others;
  bytes_are = ascii_encoded (first ∷ others) (all_of_test is_ascii (first ∷ others) ascii);
  begins = begins;
  goes_on = all_of_test is_name_character others goes_on;
}

another_name : (one other : Name) → bytes_eq one.local one.local ≡ true → bytes_eq one.local other.local ≡ false → one ≢ other
another_name one other here there e = not_from_Decides _ (bytes_eq-Decides one.local other.local) there (ap (λ (n : Name). n.local) e)

cardinality_fits : IsFitAttribute (bare_attribute (codes "ifmap-cardinality") (codes "singleValue"))
cardinality_fits = record {
  name = record { space = plain_space [] refl refl refl; local = plain_part 105 (codes "fmap-cardinality") refl refl refl };
  no_declaration = another_name (bare_name (codes "ifmap-cardinality")) (bare_name (codes "xmlns")) refl refl;
  value = plain_characters (codes "singleValue") (all_of_test is_plain (codes "singleValue") refl);
}

link_element_fits : IsFit link_element
link_element_fits = fit_whole link_element (record {
  name = record { space = plain_space (codes "urn:mapd:drill") refl refl refl; local = plain_part 108 (codes "ink") refl refl refl };
  attributes = (cardinality_fits, tt);
  names_differ = (tt, tt);
  children = record { texts = tt; apart = tt; beside = λ any. tt };
}) tt

-- ---- it has one level, is arranged, and is short

link_element_levels : nesting link_element ≡ 1
link_element_levels = at_element ℕ ℕ child_levels element_levels link_element

pub link_element_levels_within : nesting link_element ≤ 59
link_element_levels_within = omega (arith, link_element_levels)

link_element_arranged : arrange link_element ≡ link_element
link_element_arranged = arranged_is link_element

link_element_spaces : spaces_of link_element ≡ codes "urn:mapd:drill" ∷ ([] ∷ [])
link_element_spaces = at_element (List (List ℕ)) (List (List ℕ)) child_spaces element_spaces link_element

printed_by : List (List ℕ) → List ℕ
printed_by spaces =
    element_of_parts (name_prefixes (declared_among spaces)) (numbered_prefixes (codes "n") 1 (declared_among spaces) ++ [])
    link_element.name link_element.attributes []

link_element_size : length (canonical_bytes link_element) ≡ 68
unfolding printed_by
link_element_size =
    ap (λ (e : Element). length (root_bytes [] e)) link_element_arranged
    ∙ ap (λ (spaces : List (List ℕ)). length (printed_by spaces)) link_element_spaces

link_element_made : IsMadeOf link_element link_metadata
unfolding content_bytes
link_element_made = record {
  element = sym link_element_arranged;
  cardinality = refl;
  size = let size = link_element_size in omega arith;
}

pub link_element_is_metadata : ((element : Element) (metadata : Metadata) → IsFit element → nesting element ≤ level_limit
    → IsMadeOf element metadata → IsMetadata metadata) → IsMetadata link_metadata
link_element_is_metadata made = made link_element link_metadata link_element_fits (omega (arith, link_element_levels)) link_element_made
