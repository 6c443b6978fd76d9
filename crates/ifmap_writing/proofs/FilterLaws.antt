-- What is printed of a fit filter is of characters, and its namespaces are such as a document can have.
-- 1. Induction on predicates.
-- 2. What is printed of names and literals.
-- 3. What is printed of predicates.
-- 4. Their namespaces.
-- 5. Tests and filters.
use Rattle.std.proofs.Common.{◌≡◌, ◌∙◌, ◌++◌, ◌+◌, ℕ, Bool, true, false, List, [], ◌∷◌, Option, None, Some, IfSome, codes, map, refl, ap}
use Rattle.std.proofs.Common.{sym, subst}
use Rattle.std.specs.Prelude.{if◌then◌else◌}
use Rattle.std.specs.List.{AllByRecursion, flat_map}
use Rattle.std.specs.Str.{bytes_eq}
use Rattle.ifmap_lemmas.specs.Members.{all_both, both_all}
use Rattle.ifmap_lemmas.specs.Numerals.{numeral}
use Rattle.ifmap_lemmas.specs.Branches.{if_both}
use Rattle.ifmap_elem.specs.Chars.{IsCharacters, colon, double_quote, single_quote}
use Rattle.ifmap_elem.specs.Fit.{IsFitName, IsNamespace}
use Rattle.ifmap_elem.specs.Scopes.{xml_space}
use Rattle.ifmap_elem.specs.declared.elements.Name as element
use Rattle.ifmap_filter.specs.declared.filters.Predicate.{Predicate, Attr, Child, And, Or, fold-Predicate, fold-roll-Predicate}
use Rattle.ifmap_filter.specs.declared.filters.Predicate.{ind-Predicate, map-Predicate, roll-Predicate}
use Rattle.ifmap_filter.specs.declared.filters.Predicate.TheVariants.{rolls-Attr, rolls-Child, rolls-And, rolls-Or}
use Rattle.ifmap_filter.specs.declared.filters.Predicate.TheOpen.{Predicate-F}
use Rattle.ifmap_filter.specs.declared.filters.Test.{Test}
use Rattle.ifmap_filter.specs.declared.filters.Filter.{Filter}
use Rattle.ifmap_filter.specs.Printing.{PredicateText, attribute_text, brackets_text, child_text, comparison_text, filter_text, group_text}
use Rattle.ifmap_filter.specs.Printing.{has_single_quote, joined_texts, literal_text, name_text, numbered_prefix, space_place, predicate_text}
use Rattle.ifmap_filter.specs.Printing.{predicate_text_of, quote_of, test_name_text, test_text}
use Rattle.ifmap_filter.specs.Spaces.{brackets_spaces, filter_spaces, name_spaces, predicate_spaces, predicate_spaces_of, test_spaces}
use Rattle.ifmap_requests.specs.FitFilters.{Comparison, IsFitComparison, IsFitFilter, IsFitPredicate, IsFitTest, comparison, comparisons}
use Rattle.ifmap_requests.specs.FitFilters.{comparisons_of}
use Rattle.ifmap_writing.proofs.CharacterLaws.{joined_characters, plain_characters}
use Rattle.ifmap_elem.specs.laws.CharacterLaws.{characters_both, part_characters, numeral_characters}

-- ---- (1) induction

module _ (P : Predicate → Type 0) (attribute : (local value : List ℕ) → P (Attr local value))
    (child : (name : element.Name) (value : List ℕ) → P (Child name value))
    (ands : (parts : List Predicate) → AllByRecursion P parts → P (And parts))
    (ors : (parts : List Predicate) → AllByRecursion P parts → P (Or parts)) where
  each_of_pairs : (ps : List ((p : Predicate) × P p)) → AllByRecursion P (map (λ p. p.0) ps)
  each_of_pairs [] = tt
  each_of_pairs (p ∷ ps) = (p.1, each_of_pairs ps)

  at_predicate : (y : Predicate-F ((p : Predicate) × P p))
      → P (roll-Predicate (map-Predicate ((p : Predicate) × P p) Predicate (λ p. p.0) y))
  at_predicate (Predicate-F.Attr local value) = subst P (sym (rolls-Attr local value)) (attribute local value)
  at_predicate (Predicate-F.Child name value) = subst P (sym (rolls-Child name value)) (child name value)
  at_predicate (Predicate-F.And ps) = subst P (sym (rolls-And (map (λ p. p.0) ps))) (ands (map (λ p. p.0) ps) (each_of_pairs ps))
  at_predicate (Predicate-F.Or ps) = subst P (sym (rolls-Or (map (λ p. p.0) ps))) (ors (map (λ p. p.0) ps) (each_of_pairs ps))

  by_parts : (p : Predicate) → P p
  by_parts = ind-Predicate P (λ x y is. subst (λ z. P (roll-Predicate z)) is (at_predicate y))

module _ {B : Type 0} (f : Predicate-F B → B) where
  at_attribute : (local value : List ℕ) → fold-Predicate B f (Attr local value) ≡ f (Predicate-F.Attr local value)
  at_attribute local value =
      ap (fold-Predicate B f) (sym (rolls-Attr local value)) ∙ fold-roll-Predicate B f (Predicate-F.Attr local value)

  at_child : (name : element.Name) (value : List ℕ) → fold-Predicate B f (Child name value) ≡ f (Predicate-F.Child name value)
  at_child name value = ap (fold-Predicate B f) (sym (rolls-Child name value)) ∙ fold-roll-Predicate B f (Predicate-F.Child name value)

  at_ands : (parts : List Predicate) → fold-Predicate B f (And parts) ≡ f (Predicate-F.And (map (fold-Predicate B f) parts))
  at_ands parts = ap (fold-Predicate B f) (sym (rolls-And parts)) ∙ fold-roll-Predicate B f (Predicate-F.And parts)

  at_ors : (parts : List Predicate) → fold-Predicate B f (Or parts) ≡ f (Predicate-F.Or (map (fold-Predicate B f) parts))
  at_ors parts = ap (fold-Predicate B f) (sym (rolls-Or parts)) ∙ fold-roll-Predicate B f (Predicate-F.Or parts)

-- ---- (2) names and literals

prefix_characters : (n : ℕ) → IsCharacters (numbered_prefix n)
prefix_characters n = characters_both (codes "f") (numeral n) (plain_characters (codes "f") refl refl) (numeral_characters n)

name_characters : (spaces : List (List ℕ)) (name : element.Name) → IsFitName name → IsCharacters (name_text spaces name)
name_characters spaces name f =
    let local = part_characters name.local f.local in
    let numbered = numbered_prefix (space_place name.space spaces + 1) in
    if_both IsCharacters (bytes_eq name.space []) name.local
    (if bytes_eq name.space xml_space then codes "xml:" ++ name.local else numbered ++ (colon ∷ name.local)) local
    (if_both IsCharacters (bytes_eq name.space xml_space) (codes "xml:" ++ name.local) (numbered ++ (colon ∷ name.local))
    (characters_both (codes "xml:") name.local (plain_characters (codes "xml:") refl refl) local)
    (characters_both numbered (colon ∷ name.local) (prefix_characters (space_place name.space spaces + 1))
    (characters_both (codes ":") name.local (plain_characters (codes ":") refl refl) local)))

quote_characters : (value : List ℕ) → IsCharacters (quote_of value ∷ [])
quote_characters value =
    if_both (λ (q : ℕ). IsCharacters (q ∷ [])) (has_single_quote value) double_quote single_quote
    (plain_characters (double_quote ∷ []) refl refl) (plain_characters (single_quote ∷ []) refl refl)

literal_characters : (value : List ℕ) → IsCharacters value → IsCharacters (literal_text value)
literal_characters value f =
    characters_both (quote_of value ∷ []) (value ++ (quote_of value ∷ [])) (quote_characters value)
    (characters_both value (quote_of value ∷ []) f (quote_characters value))

equals_characters : (value : List ℕ) → IsCharacters value → IsCharacters (codes "=" ++ literal_text value)
equals_characters value f =
    characters_both (codes "=") (literal_text value) (plain_characters (codes "=") refl refl) (literal_characters value f)

-- ---- (3) predicates

pub record IsFitText (t : PredicateText) : Type 0 where
  pub alone : IsCharacters t.alone
  pub in_and : IsCharacters t.in_and
  pub in_or : IsCharacters t.in_or

same_fit : (text : List ℕ) → IsCharacters text → IsFitText (comparison_text text)
same_fit text f = record { alone = f; in_and = f; in_or = f }

group_characters : (text : List ℕ) → IsCharacters text → IsCharacters (group_text text)
group_characters text f =
    characters_both (codes "(") (text ++ codes ")") (plain_characters (codes "(") refl refl)
    (characters_both text (codes ")") f (plain_characters (codes ")") refl refl))

abbrev inside : List (List Comparison) → List Comparison
inside parts = flat_map (λ part. part) parts

-- what is fit of all is fit of each part
module _ (Q : Predicate → Type 0) where
  each_fit : (parts : List Predicate) → AllByRecursion (λ p. IsFitPredicate p → Q p) parts
      → AllByRecursion IsFitComparison (inside (map comparisons parts)) → AllByRecursion Q parts
  each_fit [] each f = tt
  each_fit (p ∷ parts) each f =
      let halves = all_both IsFitComparison (comparisons p) (inside (map comparisons parts)) f in
      (each.0 halves.0, each_fit parts each.1 halves.1)

module _ (spaces : List (List ℕ)) where
  abbrev HasFitText : Predicate → Type 0
  HasFitText p = IsFitText (predicate_text spaces p)

  abbrev text_step : Predicate-F PredicateText → PredicateText
  text_step = predicate_text_of spaces

  texts_in : (text : PredicateText → List ℕ) → ((t : PredicateText) → IsFitText t → IsCharacters (text t)) → (parts : List Predicate)
      → AllByRecursion HasFitText parts → AllByRecursion (λ t. IsCharacters (text t)) (map (predicate_text spaces) parts)
  texts_in text f [] each = tt
  texts_in text f (p ∷ parts) each = (f (predicate_text spaces p) each.0, texts_in text f parts each.1)

  attribute_fit : (local value : List ℕ) → IsFitPredicate (Attr local value) → HasFitText (Attr local value)
  attribute_fit local value f =
      let own : AllByRecursion IsFitComparison (comparison (record { space = []; local = local }) value ∷ []) =
      subst (AllByRecursion IsFitComparison) (at_attribute comparisons_of local value) f in
      subst IsFitText (sym (at_attribute text_step local value))
      (same_fit (attribute_text local value)
      (characters_both (codes "@") (local ++ (codes "=" ++ literal_text value)) (plain_characters (codes "@") refl refl)
      (characters_both local (codes "=" ++ literal_text value) (part_characters local own.0.name.local)
      (equals_characters value own.0.value))))

  child_fit : (name : element.Name) (value : List ℕ) → IsFitPredicate (Child name value) → HasFitText (Child name value)
  child_fit name value f =
      let own : AllByRecursion IsFitComparison (comparison name value ∷ []) =
      subst (AllByRecursion IsFitComparison) (at_child comparisons_of name value) f in
      subst IsFitText (sym (at_child text_step name value))
      (same_fit (child_text spaces name value)
      (characters_both (name_text spaces name) (codes "=" ++ literal_text value) (name_characters spaces name own.0.name)
      (equals_characters value own.0.value)))

  abbrev Texts : List Predicate → List PredicateText
  Texts parts = map (predicate_text spaces) parts

  ands_fit : (parts : List Predicate) → AllByRecursion (λ p. IsFitPredicate p → HasFitText p) parts → IsFitPredicate (And parts)
      → HasFitText (And parts)
  ands_fit parts each f =
      let fits = each_fit HasFitText parts each (subst (AllByRecursion IsFitComparison) (at_ands comparisons_of parts) f) in
      let text : List ℕ = joined_texts (codes " and ") (λ (t : PredicateText). t.in_and) (Texts parts) in
      let joined : IsCharacters text =
      joined_characters (codes " and ") (λ (t : PredicateText). t.in_and) (plain_characters (codes " and ") refl refl) (Texts parts)
      (texts_in (λ t. t.in_and) (λ t g. g.in_and) parts fits) in
      subst IsFitText (sym (at_ands text_step parts)) (record { alone = joined; in_and = group_characters text joined; in_or = joined })

  ors_fit : (parts : List Predicate) → AllByRecursion (λ p. IsFitPredicate p → HasFitText p) parts → IsFitPredicate (Or parts)
      → HasFitText (Or parts)
  ors_fit parts each f =
      let fits = each_fit HasFitText parts each (subst (AllByRecursion IsFitComparison) (at_ors comparisons_of parts) f) in
      let text : List ℕ = joined_texts (codes " or ") (λ (t : PredicateText). t.in_or) (Texts parts) in
      let joined : IsCharacters text =
      joined_characters (codes " or ") (λ (t : PredicateText). t.in_or) (plain_characters (codes " or ") refl refl) (Texts parts)
      (texts_in (λ t. t.in_or) (λ t g. g.in_or) parts fits) in
      subst IsFitText (sym (at_ors text_step parts))
      (record { alone = joined; in_and = group_characters text joined; in_or = group_characters text joined })

  predicate_fit : (p : Predicate) → IsFitPredicate p → HasFitText p
  predicate_fit = by_parts (λ p. IsFitPredicate p → HasFitText p) attribute_fit child_fit ands_fit ors_fit

-- ---- (4) namespaces

abbrev HasNamespaces : Predicate → Type 0
HasNamespaces p = AllByRecursion IsNamespace (predicate_spaces p)

attribute_spaces : (local value : List ℕ) → IsFitPredicate (Attr local value) → HasNamespaces (Attr local value)
attribute_spaces local value f = subst (AllByRecursion IsNamespace) (sym (at_attribute predicate_spaces_of local value)) tt

child_spaces : (name : element.Name) (value : List ℕ) → IsFitPredicate (Child name value) → HasNamespaces (Child name value)
child_spaces name value f =
    let own : AllByRecursion IsFitComparison (comparison name value ∷ []) =
    subst (AllByRecursion IsFitComparison) (at_child comparisons_of name value) f in
    subst (AllByRecursion IsNamespace) (sym (at_child predicate_spaces_of name value)) (own.0.name.space, tt)

spaces_in : (parts : List Predicate) → AllByRecursion HasNamespaces parts
    → AllByRecursion IsNamespace (flat_map (λ (spaces : List (List ℕ)). spaces) (map predicate_spaces parts))
spaces_in [] each = tt
spaces_in (p ∷ parts) each =
    both_all IsNamespace (predicate_spaces p) (flat_map (λ spaces. spaces) (map predicate_spaces parts)) each.0 (spaces_in parts each.1)

ands_spaces : (parts : List Predicate) → AllByRecursion (λ p. IsFitPredicate p → HasNamespaces p) parts → IsFitPredicate (And parts)
    → HasNamespaces (And parts)
ands_spaces parts each f =
    let fits = each_fit HasNamespaces parts each (subst (AllByRecursion IsFitComparison) (at_ands comparisons_of parts) f) in
    subst (AllByRecursion IsNamespace) (sym (at_ands predicate_spaces_of parts)) (spaces_in parts fits)

ors_spaces : (parts : List Predicate) → AllByRecursion (λ p. IsFitPredicate p → HasNamespaces p) parts → IsFitPredicate (Or parts)
    → HasNamespaces (Or parts)
ors_spaces parts each f =
    let fits = each_fit HasNamespaces parts each (subst (AllByRecursion IsFitComparison) (at_ors comparisons_of parts) f) in
    subst (AllByRecursion IsNamespace) (sym (at_ors predicate_spaces_of parts)) (spaces_in parts fits)

predicate_namespaces : (p : Predicate) → IsFitPredicate p → HasNamespaces p
predicate_namespaces = by_parts (λ p. IsFitPredicate p → HasNamespaces p) attribute_spaces child_spaces ands_spaces ors_spaces

-- ---- (5) tests and filters

module _ (spaces : List (List ℕ)) where
  head_characters : (name : Option element.Name) → IfSome name IsFitName → IsCharacters (test_name_text spaces name)
  head_characters None f = plain_characters (codes "*") refl refl
  head_characters (Some name) f = name_characters spaces name f

  brackets_characters : (p : Option Predicate) → IfSome p IsFitPredicate → IsCharacters (brackets_text spaces p)
  brackets_characters None f = plain_characters [] refl refl
  brackets_characters (Some p) f =
      let own = (predicate_fit spaces p f).alone in
      characters_both (codes "[") ((predicate_text spaces p).alone ++ codes "]") (plain_characters (codes "[") refl refl)
      (characters_both (predicate_text spaces p).alone (codes "]") own (plain_characters (codes "]") refl refl))

  tests_characters : (tests : List Test) → AllByRecursion IsFitTest tests
      → AllByRecursion (λ (test : Test). IsCharacters (test_text spaces test)) tests
  tests_characters [] f = tt
  tests_characters (test ∷ tests) f = (
    characters_both (test_name_text spaces test.name) (brackets_text spaces test.predicate) (head_characters test.name f.0.name)
        (brackets_characters test.predicate f.0.predicate),
    tests_characters tests f.1,
  )

  -- what is printed of a fit filter is of characters
  pub filter_characters : (filter : Filter) → IsFitFilter filter → IsCharacters (filter_text spaces filter)
  filter_characters filter f =
      joined_characters (codes " or ") (test_text spaces) (plain_characters (codes " or ") refl refl) filter.tests
      (tests_characters filter.tests f.tests)

name_namespaces : (name : Option element.Name) → IfSome name IsFitName → AllByRecursion IsNamespace (name_spaces name)
name_namespaces None f = tt
name_namespaces (Some name) f = (f.space, tt)

brackets_namespaces : (p : Option Predicate) → IfSome p IsFitPredicate → AllByRecursion IsNamespace (brackets_spaces p)
brackets_namespaces None f = tt
brackets_namespaces (Some p) f = predicate_namespaces p f

tests_namespaces : (tests : List Test) → AllByRecursion IsFitTest tests → AllByRecursion IsNamespace (flat_map test_spaces tests)
tests_namespaces [] f = tt
tests_namespaces (test ∷ tests) f =
    both_all IsNamespace (test_spaces test) (flat_map test_spaces tests)
    (both_all IsNamespace (name_spaces test.name) (brackets_spaces test.predicate) (name_namespaces test.name f.0.name)
    (brackets_namespaces test.predicate f.0.predicate)) (tests_namespaces tests f.1)

-- and its namespaces can be declared
pub filter_namespaces : (filter : Filter) → IsFitFilter filter → AllByRecursion IsNamespace (filter_spaces filter)
filter_namespaces filter f = tests_namespaces filter.tests f.tests
