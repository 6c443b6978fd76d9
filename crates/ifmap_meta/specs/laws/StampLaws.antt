-- Stamping keeps what keys compare.
use Rattle.std.proofs.Common.{◌≡◌, ℕ, List, [], ◌∷◌, ◌++◌, Bool, true, false, not, ◌&&◌, ◌||◌, map, codes, refl, ap, sym, ◌∙◌, inl, inr}
use Rattle.std.proofs.Math.Bool.{or-false}
use Rattle.std.proofs.lemmas.Bool.{cases_Bool, and_parts}
use Rattle.std.proofs.lemmas.List.{append-nil}
use Rattle.std.proofs.lemmas.List.Elements.{filter-append}
use Rattle.std.proofs.lemmas.List.Folds.{list_any-append}
use Rattle.std.proofs.lemmas.List.Sorted.{list_any-IsPermutation}
use Rattle.std.proofs.lemmas.Map.Views.{any-filter_same}
use Rattle.std.proofs.lemmas.Slice.Eq.{bytes_eq-Decides}
use Rattle.std.specs.List.{filter, list_any}
use Rattle.std.specs.Str.{bytes_eq}
use Rattle.ifmap_elem.specs.Arranged.{arrange, arrange_child, sort_attributes}
use Rattle.ifmap_elem.specs.Canonical.{root_bytes}
use Rattle.ifmap_elem.specs.Namespaces.{numbered_prefixes}
use Rattle.ifmap_elem.specs.declared.elements.Attribute.{Attribute}
use Rattle.ifmap_elem.specs.declared.elements.Element.{Element}
use Rattle.ifmap_lemmas.specs.Filters.{filter_again}
use Rattle.ifmap_elem.specs.laws.ArrangedLaws.{arranged_is}
use Rattle.ifmap_elem.specs.laws.AttributeOrder.{sorted_permutation}
use Rattle.ifmap_meta.specs.Cardinality.{cardinality_of, is_multi, is_multi_value, is_single, is_single_value}
use Rattle.ifmap_meta.specs.Keys.{content_bytes}
use Rattle.ifmap_meta.specs.Stamps.{content_of, is_stamp, stamp, stamps, stamps_of, with_stamps, without_stamps}
use Rattle.ifmap_io.specs.Calendar.{moment_text}
use Rattle.ifmap_elem.specs.Building.{is_bare}
use Rattle.ifmap_meta.specs.laws.Order.{filter_sorted}
use Rattle.ifmap_elem.specs.laws.AgainLaws.{sorted_again}

abbrev pub is_content : Attribute → Bool
is_content a = not (is_stamp a)

stamps_go : (publisher : List ℕ) (moment : ℕ) (xs : List Attribute)
    → without_stamps (without_stamps xs ++ stamps publisher moment) ≡ without_stamps xs
stamps_go publisher moment xs =
    filter-append is_content (without_stamps xs) (stamps publisher moment)
    ∙ append-nil (without_stamps (without_stamps xs))
    ∙ filter_again is_content xs

same_content : (publisher : List ℕ) (moment : ℕ) (xs : List Attribute)
    → sort_attributes (without_stamps (with_stamps publisher moment (without_stamps xs))) ≡ sort_attributes (without_stamps xs)
same_content publisher moment xs =
    let all = without_stamps xs ++ stamps publisher moment in
    ap sort_attributes (filter_sorted is_content all ∙ ap sort_attributes (stamps_go publisher moment xs))
    ∙ sorted_again (without_stamps xs)

arranged_content : (publisher : List ℕ) (moment : ℕ) (e : Element)
    → arrange (content_of (stamp publisher moment e)) ≡ arrange (content_of e)
arranged_content publisher moment e =
    arranged_is (content_of (stamp publisher moment e))
    ∙ ap (λ attributes. record { name = e.name; attributes = attributes; children = map arrange_child e.children })
    (same_content publisher moment e.attributes)
    ∙ sym (arranged_is (content_of e))

pub content_stays : (publisher : List ℕ) (moment : ℕ) (e : Element) → content_bytes (stamp publisher moment e) ≡ content_bytes e
unfolding content_bytes
content_stays publisher moment e = ap (root_bytes (numbered_prefixes (codes "f") 1 [])) (arranged_content publisher moment e)

never_both : (s : Bool) → not ((s && false) || (s && false)) ≡ true
never_both true = refl
never_both false = refl

-- what tells the cardinality is no stamp
named_so : (a : Attribute) (value : List ℕ) → (is_bare (codes "ifmap-cardinality") a.name && bytes_eq a.value value) ≡ true
    → is_content a ≡ true
named_so a value e =
    let l = (bytes_eq-Decides a.name.local (codes "ifmap-cardinality")).0 (and_parts _ _ (and_parts _ _ e).0).1 in
    let first : bytes_eq a.name.local (codes "ifmap-publisher-id") ≡ false = rw l refl in
    let second : bytes_eq a.name.local (codes "ifmap-timestamp") ≡ false = rw l refl in
    rw (first, second) (never_both (bytes_eq a.name.space []))

-- a test that no stamp passes finds the same among the content in order
module _ (test : Attribute → Bool) (content : (a : Attribute) → test a ≡ true → is_content a ≡ true) where
  pub any_content : (xs : List Attribute) → list_any test (sort_attributes (without_stamps xs)) ≡ list_any test xs
  any_content xs =
      sym (list_any-IsPermutation test (without_stamps xs) (sort_attributes (without_stamps xs)) (sorted_permutation (without_stamps xs)))
      ∙ any-filter_same test is_content true content xs

  any_stamped : (publisher text : List ℕ) (xs : List Attribute) → list_any test (stamps_of publisher text) ≡ false
      → list_any test (sort_attributes (without_stamps xs ++ stamps_of publisher text)) ≡ list_any test xs
  any_stamped publisher text xs none =
      let all = without_stamps xs ++ stamps_of publisher text in
      sym (list_any-IsPermutation test all (sort_attributes all) (sorted_permutation all))
      ∙ list_any-append test (without_stamps xs) (stamps_of publisher text)
      ∙ ap (λ b. list_any test (without_stamps xs) || b) none
      ∙ or-false (list_any test (without_stamps xs))
      ∙ any-filter_same test is_content true content xs

single_is_content : (a : Attribute) → is_single_value a ≡ true → is_content a ≡ true
single_is_content a e = named_so a (codes "singleValue") e

multi_is_content : (a : Attribute) → is_multi_value a ≡ true → is_content a ≡ true
multi_is_content a e = named_so a (codes "multiValue") e

-- what tells the cardinality in two elements alike tells one cardinality
one_cardinality : (a b : Element) → is_single a ≡ is_single b → is_multi a ≡ is_multi b → cardinality_of a ≡ cardinality_of b
one_cardinality a b e f = rw (e, f) refl

pub single_stays : (publisher : List ℕ) (moment : ℕ) (e : Element) → is_single (stamp publisher moment e) ≡ is_single e
single_stays publisher moment e = any_stamped is_single_value single_is_content publisher (moment_text moment) e.attributes refl

pub cardinality_stays : (publisher : List ℕ) (moment : ℕ) (e : Element) → cardinality_of (stamp publisher moment e) ≡ cardinality_of e
cardinality_stays publisher moment e =
    one_cardinality (stamp publisher moment e) e (single_stays publisher moment e)
    (any_stamped is_multi_value multi_is_content publisher (moment_text moment) e.attributes refl)

-- content in order
abbrev content_in_order : Element → Element
content_in_order e = record {
  name = e.name;
  attributes = sort_attributes (without_stamps e.attributes);
  children = map arrange_child e.children;
}

-- it says the cardinality that the element says
pub content_says : (e : Element) → cardinality_of (arrange (content_of e)) ≡ cardinality_of e
content_says e =
    ap cardinality_of (arranged_is (content_of e))
    ∙ one_cardinality (content_in_order e) e
    (any_content is_single_value single_is_content e.attributes) (any_content is_multi_value multi_is_content e.attributes)

-- content has no stamps
no_stamps : (xs : List Attribute) → filter is_stamp (without_stamps xs) ≡ []
no_stamps [] = refl
no_stamps (x ∷ xs) = elim (cases_Bool (is_stamp x)) [
  | inl e ↦ rw e (no_stamps xs)
  | inr e ↦ rw (e, e) (no_stamps xs)
]

pub stamps_stay : (publisher : List ℕ) (moment : ℕ) (e : Element)
    → filter is_stamp (stamp publisher moment e).attributes ≡ stamps publisher moment
stamps_stay publisher moment e =
    let content = without_stamps e.attributes in
    filter_sorted is_stamp (content ++ stamps publisher moment)
    ∙ ap sort_attributes (filter-append is_stamp content (stamps publisher moment) ∙ ap
    (λ xs. xs ++ stamps publisher moment) (no_stamps e.attributes))
