-- Attributes by their named values. Plan: (1) the value of an attribute is the one under its name, or none; (2) there are no others;
-- (3) where the names rise, the attributes are in order, and no two have one name; (4) they fit.
use Rattle.std.proofs.Common.{◌≡◌, ◌≢◌, ◌∙◌, ◌++◌, ◌&&◌, ℕ, Bool, true, false, not, cond, List, [], ◌∷◌, Option, None, Some, IfSome, codes}
use Rattle.std.proofs.Common.{map, inl, inr, refl, ap, sym}
use Rattle.std.proofs.lemmas.Bool.Decides.{not_from_Decides}
use Rattle.std.proofs.lemmas.Slice.Eq.{bytes_eq-Decides}
use Rattle.std.specs.Prelude.{if◌then◌else◌, option_map}
use Rattle.std.specs.Cmp.Lexicographic.{slice_cmp}
use Rattle.std.specs.List.{AllByRecursion, find, list_all, list_any}
use Rattle.std.specs.Ordering.{is_gt, is_lt, nat_cmp, ordering_then}
use Rattle.std.specs.Str.{bytes_eq}
use Rattle.std.proofs.lemmas.Bool.{and_from, and_parts, cases_Bool, not-true}
use Rattle.ifmap_lemmas.specs.Members.{all_of_test}
use Rattle.ifmap_lemmas.specs.Orderings.{is_less}
use Rattle.ifmap_lemmas.specs.Sorting.{insert}
use Rattle.ifmap_lemmas.specs.Texts.{is_ascii, slice_cmp-less}
use Rattle.ifmap_elem.specs.Arranged.{attribute_order, sort_attributes}
use Rattle.ifmap_elem.specs.Building.{bare_attribute, bare_name, is_bare}
use Rattle.ifmap_elem.specs.Chars.{IsCharacters}
use Rattle.ifmap_elem.specs.Fit.{IsFitAttribute}
use Rattle.ifmap_elem.specs.Names.{IsNamePart, is_name_character, is_name_start}
use Rattle.ifmap_elem.specs.Scopes.{AllDiffer}
use Rattle.ifmap_elem.specs.declared.elements.Attribute.{Attribute}
use Rattle.ifmap_elem.specs.declared.elements.Name.{Name}
use Rattle.ifmap_elem.specs.laws.PrintedTags.{ascii_part}
use Rattle.ifmap_elem.specs.laws.FitLaws.{no_namespace}
use Rattle.ifmap_ident.specs.Parts.{is_known}
use Rattle.ifmap_writing.specs.Attributes.{NamedValue, attributes_of, written_attribute}

-- ---- (1) values

abbrev or_else : Option (List ℕ) → Option (List ℕ) → Option (List ℕ)
or_else None other = other
or_else (Some value) other = Some value

pub or_none : (o : Option (List ℕ)) → or_else o None ≡ o
or_none None = refl
or_none (Some value) = refl

-- the first value under that name, where one has a value
abbrev pub value_named : List ℕ → List NamedValue → Option (List ℕ)
value_named local [] = None
value_named local (r ∷ values) = if bytes_eq r.local local then or_else r.value (value_named local values) else value_named local values

-- the value of the attribute
abbrev bare_value : List ℕ → List Attribute → Option (List ℕ)
bare_value local attributes = option_map (λ (a : Attribute). a.value) (find (λ (a : Attribute). is_bare local a.name) attributes)

one_found : (local l : List ℕ) (o : Option (List ℕ)) (more : List Attribute)
    → bare_value local (written_attribute l o ++ more)
    ≡ (if bytes_eq l local then or_else o (bare_value local more) else bare_value local more)
one_found local l None more = elim (cases_Bool (bytes_eq l local)) [ inl e ↦ rw e refl | inr e ↦ rw e refl ]
one_found local l (Some value) more = elim (cases_Bool (bytes_eq l local)) [ inl e ↦ rw e refl | inr e ↦ rw e refl ]

pub value_found : (local : List ℕ) (values : List NamedValue) → bare_value local (attributes_of values) ≡ value_named local values
value_found local [] = refl
value_found local (r ∷ values) =
    one_found local r.local r.value (attributes_of values)
    ∙ ap (λ (o : Option (List ℕ)). if bytes_eq r.local local then or_else r.value o else o) (value_found local values)

-- ---- (2) no others

module _ (locals : List (List ℕ)) where
  known_one : (l : List ℕ) (o : Option (List ℕ)) (more : List Attribute) → list_any (bytes_eq l) locals ≡ true
      → list_all (is_known locals) more ≡ true → list_all (is_known locals) (written_attribute l o ++ more) ≡ true
  known_one l None more known others = others
  known_one l (Some value) more known others =
      and_from (list_any (bytes_eq l) locals) (list_all (is_known locals) more) known others

  -- each has one of these names
  abbrev pub values_known : List NamedValue → Bool
  values_known values = list_all (λ r. list_any (bytes_eq r.local) locals) values

  pub only_values : (values : List NamedValue) → values_known values ≡ true → list_all (is_known locals) (attributes_of values) ≡ true
  only_values [] h = refl
  only_values (r ∷ values) h =
      let parts = and_parts (list_any (bytes_eq r.local) locals) (values_known values) h in
      known_one r.local r.value (attributes_of values) parts.0 (only_values values parts.1)

-- ---- (3) order

abbrev comes_before : List ℕ → NamedValue → Bool
comes_before l r = is_lt (slice_cmp nat_cmp l r.local)

-- each name comes before those after it
abbrev pub rises : List NamedValue → Bool
rises [] = true
rises (r ∷ values) = list_all (comes_before r.local) values && rises values

not_after : (l s v w : List ℕ) → is_lt (slice_cmp nat_cmp l s) ≡ true
    → is_gt (attribute_order (bare_attribute l v) (bare_attribute s w)) ≡ false
not_after l s v w h =
    ap (λ o. is_gt (ordering_then o (slice_cmp nat_cmp v w))) (is_less (slice_cmp nat_cmp l s) h)

module _ (l v : List ℕ) where
  placed_one : (s : List ℕ) (o : Option (List ℕ)) (more : List Attribute) → is_lt (slice_cmp nat_cmp l s) ≡ true
      → insert attribute_order (bare_attribute l v) more ≡ bare_attribute l v ∷ more
      → insert attribute_order (bare_attribute l v) (written_attribute s o ++ more) ≡ bare_attribute l v ∷ (written_attribute s o ++ more)
  placed_one s None more h placed = placed
  placed_one s (Some w) more h placed =
      ap (λ b. cond b (bare_attribute s w ∷ insert attribute_order (bare_attribute l v) more)
      (bare_attribute l v ∷ (bare_attribute s w ∷ more))) (not_after l s v w h)

  first_placed : (values : List NamedValue) → list_all (comes_before l) values ≡ true
      → insert attribute_order (bare_attribute l v) (attributes_of values) ≡ bare_attribute l v ∷ attributes_of values
  first_placed [] h = refl
  first_placed (r ∷ values) h =
      let parts = and_parts (comes_before l r) (list_all (comes_before l) values) h in
      placed_one r.local r.value (attributes_of values) parts.0 (first_placed values parts.1)

sorted_one : (l : List ℕ) (o : Option (List ℕ)) (values : List NamedValue) → list_all (comes_before l) values ≡ true
    → sort_attributes (attributes_of values) ≡ attributes_of values
    → sort_attributes (written_attribute l o ++ attributes_of values) ≡ written_attribute l o ++ attributes_of values
sorted_one l None values h sorted = sorted
sorted_one l (Some v) values h sorted = ap (insert attribute_order (bare_attribute l v)) sorted ∙ first_placed l v values h

pub values_sorted : (values : List NamedValue) → rises values ≡ true → sort_attributes (attributes_of values) ≡ attributes_of values
values_sorted [] h = refl
values_sorted (r ∷ values) h =
    let parts = and_parts (list_all (comes_before r.local) values) (rises values) h in
    sorted_one r.local r.value values parts.0 (values_sorted values parts.1)

abbrev name_of : Attribute → Name
name_of a = a.name

apart_names : (l s : List ℕ) → is_lt (slice_cmp nat_cmp l s) ≡ true → bare_name l ≢ bare_name s
apart_names l s h e =
    let wrong : true ≡ false = slice_cmp-less l s (sym (is_less (slice_cmp nat_cmp l s) h)) (ap (λ (n : Name). n.local) e) in cc

apart_one : (l s : List ℕ) (o : Option (List ℕ)) (more : List Attribute) → is_lt (slice_cmp nat_cmp l s) ≡ true
    → AllByRecursion (λ n. bare_name l ≢ n) (map name_of more)
    → AllByRecursion (λ n. bare_name l ≢ n) (map name_of (written_attribute s o ++ more))
apart_one l s None more h others = others
apart_one l s (Some w) more h others = (apart_names l s h, others)

apart_values : (l : List ℕ) (values : List NamedValue) → list_all (comes_before l) values ≡ true
    → AllByRecursion (λ n. bare_name l ≢ n) (map name_of (attributes_of values))
apart_values l [] h = tt
apart_values l (r ∷ values) h =
    let parts = and_parts (comes_before l r) (list_all (comes_before l) values) h in
    apart_one l r.local r.value (attributes_of values) parts.0 (apart_values l values parts.1)

differ_one : (l : List ℕ) (o : Option (List ℕ)) (more : List Attribute) → AllByRecursion (λ n. bare_name l ≢ n) (map name_of more)
    → AllDiffer (map name_of more) → AllDiffer (map name_of (written_attribute l o ++ more))
differ_one l None more other d = d
differ_one l (Some v) more other d = (other, d)

pub values_differ : (values : List NamedValue) → rises values ≡ true → AllDiffer (map name_of (attributes_of values))
values_differ [] h = tt
values_differ (r ∷ values) h =
    let parts = and_parts (list_all (comes_before r.local) values) (rises values) h in
    differ_one r.local r.value (attributes_of values) (apart_values r.local values parts.0) (values_differ values parts.1)

-- ---- (4) they fit

-- a name of ASCII but `xmlns`
abbrev pub is_plain_local : List ℕ → Bool
is_plain_local [] = false
is_plain_local (c ∷ cs) =
    (is_name_start c && list_all is_name_character cs) && (list_all is_ascii (c ∷ cs) && not (bytes_eq (c ∷ cs) (codes "xmlns")))

pub plain_fits : (l : List ℕ) → is_plain_local l ≡ true → IsNamePart l × (l ≢ codes "xmlns")
plain_fits [] h = let wrong : false ≡ true = h in cc
plain_fits (c ∷ cs) h =
    let halves = and_parts (is_name_start c && list_all is_name_character cs)
    (list_all is_ascii (c ∷ cs) && not (bytes_eq (c ∷ cs) (codes "xmlns"))) h in
    let name = and_parts (is_name_start c) (list_all is_name_character cs) halves.0 in
    let plain = and_parts (list_all is_ascii (c ∷ cs)) (not (bytes_eq (c ∷ cs) (codes "xmlns"))) halves.1 in (
      ascii_part c cs name.0 (all_of_test is_name_character cs name.1) (all_of_test is_ascii (c ∷ cs) plain.0),
      not_from_Decides _ (bytes_eq-Decides (c ∷ cs) (codes "xmlns")) (not-true (bytes_eq (c ∷ cs) (codes "xmlns")) plain.1),
    )

abbrev pub HasFitValue : NamedValue → Type 0
HasFitValue r = IfSome r.value IsCharacters

abbrev pub values_plain : List NamedValue → Bool
values_plain values = list_all (λ r. is_plain_local r.local) values

fit_one : (l : List ℕ) (o : Option (List ℕ)) (more : List Attribute) → is_plain_local l ≡ true → IfSome o IsCharacters
    → AllByRecursion IsFitAttribute more → AllByRecursion IsFitAttribute (written_attribute l o ++ more)
fit_one l None more plain value others = others
fit_one l (Some v) more plain value others =
    let fits = plain_fits l plain in (
      record {
        name = record { space = no_namespace; local = fits.0 };
        no_declaration = λ e. fits.1 (ap (λ (n : Name). n.local) e);
        value = value;
      },
      others,
    )

pub values_fit : (values : List NamedValue) → values_plain values ≡ true → AllByRecursion HasFitValue values
    → AllByRecursion IsFitAttribute (attributes_of values)
values_fit [] plain fit = tt
values_fit (r ∷ values) plain fit =
    let parts = and_parts (is_plain_local r.local) (values_plain values) plain in
    fit_one r.local r.value (attributes_of values) parts.0 fit.0 (values_fit values parts.1 fit.1)
