-- Which namespaces are had, and what is made of a list to which others are added. Plan:
-- (1) tests of joined lists;
-- (2) what the parts of a predicate have;
-- (3) one more namespace at the end, and several;
-- (4) the namespaces of several filters serve each of them.
use Rattle.std.proofs.Common.{◌≡◌, ℕ, ◌+◌, ◌<◌, Bool, true, false, List, [], ◌∷◌, ◌++◌, get_or, length, take, refl, ap, sym, ◌∙◌, subst, inl, inr, append_assoc}
use Rattle.std.specs.Prelude.{◌&&◌}
use Rattle.std.specs.List.{AllByRecursion, flat_map, list_all, list_any}
use Rattle.std.specs.Str.{bytes_eq}
use Rattle.std.proofs.lemmas.Bool.{and_parts, cases_Bool}
use Rattle.std.proofs.lemmas.Grind.{flat_map-append}
use Rattle.std.proofs.lemmas.List.{append-nil, take_more}
use Rattle.std.proofs.lemmas.List.Folds.{flat_map-map, list_all-append}
use Rattle.ifmap_lemmas.specs.Texts.{eq_itself}
use Rattle.ifmap_lemmas.specs.Branches.{and_true}
use Rattle.ifmap_lemmas.specs.Runs.{all_joined, any_more, any_last}
use Rattle.ifmap_elem.specs.Namespaces.{declared_among, is_declared, AddsSpaces, IsFront}
use Rattle.ifmap_elem.specs.Scopes.{xml_space}
use Rattle.ifmap_elem.specs.laws.NamespaceLaws.{adds_both, adds_known, adds_new, adds_none, adds_undeclared}
use Rattle.ifmap_elem.specs.declared.elements.Name as element
use Rattle.ifmap_filter.specs.declared.filters.Predicate.{Predicate, Child, And, Or, fold-roll-Predicate}
use Rattle.ifmap_filter.specs.declared.filters.Predicate.TheVariants.{rolls-And, rolls-Child, rolls-Or}
use Rattle.ifmap_filter.specs.declared.filters.Predicate.TheOpen.{Predicate-F}
use Rattle.ifmap_filter.specs.declared.filters.Test.{Test}
use Rattle.ifmap_filter.specs.declared.filters.Filter.{Filter}
use Rattle.ifmap_filter.specs.Spaces.{HasSpaces, ListedServeEach, MoreServe, filter_spaces, has_each, has_space, predicate_spaces, predicate_spaces_of, test_spaces, with_each, with_space}

-- (1) joined lists

pub tests_had : (spaces : List (List ℕ)) (tests : List Test)
    → list_all (λ test. has_each spaces (test_spaces test)) tests ≡ has_each spaces (flat_map test_spaces tests)
tests_had spaces tests = sym (all_joined (has_space spaces) test_spaces tests)

-- (2) predicates

pub spaces_child : (name : element.Name) (value : List ℕ) → predicate_spaces (Child name value) ≡ name.space ∷ []
spaces_child name value =
    ap predicate_spaces (sym (rolls-Child name value)) ∙ fold-roll-Predicate (List (List ℕ)) predicate_spaces_of
    (Predicate-F.Child name value)

pub spaces_and : (parts : List Predicate) → predicate_spaces (And parts) ≡ flat_map predicate_spaces parts
spaces_and parts =
    ap predicate_spaces (sym (rolls-And parts)) ∙ fold-roll-Predicate (List (List ℕ)) predicate_spaces_of (Predicate-F.And parts)
    ∙ flat_map-map (λ s. s) predicate_spaces parts

pub spaces_or : (parts : List Predicate) → predicate_spaces (Or parts) ≡ flat_map predicate_spaces parts
spaces_or parts =
    ap predicate_spaces (sym (rolls-Or parts)) ∙ fold-roll-Predicate (List (List ℕ)) predicate_spaces_of (Predicate-F.Or parts)
    ∙ flat_map-map (λ s. s) predicate_spaces parts

pub had_child : (spaces : List (List ℕ)) (name : element.Name) (value : List ℕ)
    → has_each spaces (predicate_spaces (Child name value)) ≡ has_space spaces name.space
had_child spaces name value = ap (has_each spaces) (spaces_child name value) ∙ and_true (has_space spaces name.space)

pub had_and : (spaces : List (List ℕ)) (parts : List Predicate)
    → has_each spaces (predicate_spaces (And parts)) ≡ list_all (λ p. has_each spaces (predicate_spaces p)) parts
had_and spaces parts = ap (has_each spaces) (spaces_and parts) ∙ all_joined (has_space spaces) predicate_spaces parts

pub had_or : (spaces : List (List ℕ)) (parts : List Predicate)
    → has_each spaces (predicate_spaces (Or parts)) ≡ list_all (λ p. has_each spaces (predicate_spaces p)) parts
had_or spaces parts = ap (has_each spaces) (spaces_or parts) ∙ all_joined (has_space spaces) predicate_spaces parts

-- (3) one more namespace

pub had_among : (spaces : List (List ℕ)) (s : List ℕ) → bytes_eq s [] ≡ false → bytes_eq s xml_space ≡ false
    → has_space spaces s ≡ list_any (bytes_eq s) spaces
had_among spaces s e f = rw (e, f) refl

had_more : (spaces more : List (List ℕ)) (s : List ℕ) → has_space spaces s ≡ true → has_space (spaces ++ more) s ≡ true
had_more spaces more s h = elim (cases_Bool (bytes_eq s [])) [
  | inl e ↦ rw e refl
  | inr e ↦ elim (cases_Bool (bytes_eq s xml_space)) [
    | inl f ↦ rw (e, f) refl
    | inr f ↦ rw (e, f) (any_more (bytes_eq s) spaces more (rw (e, f) at h))
  ]
]

each_more : (spaces more these : List (List ℕ)) → has_each spaces these ≡ true → has_each (spaces ++ more) these ≡ true
each_more spaces more [] h = refl
each_more spaces more (s ∷ these) h =
    let parts = and_parts (has_space spaces s) (has_each spaces these) h in
    rw (had_more spaces more s parts.0, each_more spaces more these parts.1) refl

known_space_stays : (spaces : List (List ℕ)) (s : List ℕ) → has_space spaces s ≡ true → with_space spaces s ≡ spaces
known_space_stays spaces s e = rw e refl

new_space_is_last : (spaces : List (List ℕ)) (s : List ℕ) → has_space spaces s ≡ false → with_space spaces s ≡ spaces ++ s ∷ []
new_space_is_last spaces s e = rw e refl

had_last : (spaces : List (List ℕ)) (s : List ℕ) → has_space (spaces ++ s ∷ []) s ≡ true
had_last spaces s = elim (cases_Bool (bytes_eq s [])) [
  | inl e ↦ rw e refl
  | inr e ↦ elim (cases_Bool (bytes_eq s xml_space)) [
    | inl f ↦ rw (e, f) refl
    | inr f ↦ rw (e, f) (any_last (bytes_eq s) spaces s (eq_itself s))
  ]
]

had_with : (spaces : List (List ℕ)) (s : List ℕ) → has_space (with_space spaces s) s ≡ true
had_with spaces s = elim (cases_Bool (has_space spaces s)) [
  | inl e ↦ subst (λ l. has_space l s ≡ true) (sym (known_space_stays spaces s e)) e
  | inr e ↦ subst (λ l. has_space l s ≡ true) (sym (new_space_is_last spaces s e)) (had_last spaces s)
]

front_with : (spaces : List (List ℕ)) (s : List ℕ) → IsFront spaces (with_space spaces s)
front_with spaces s = elim (cases_Bool (has_space spaces s)) [
  | inl e ↦ ([], known_space_stays spaces s e ∙ sym (append-nil spaces))
  | inr e ↦ (s ∷ [], new_space_is_last spaces s e)
]

pub front_each : (spaces these : List (List ℕ)) → IsFront spaces (with_each spaces these)
front_each spaces [] = ([], sym (append-nil spaces))
front_each spaces (s ∷ these) =
    let one = front_with spaces s in
    let others = front_each (with_space spaces s) these in
    (one.0 ++ others.0, others.1 ∙ ap (λ l. l ++ others.0) one.1 ∙ append_assoc spaces one.0 others.0)

pub serve_each : (spaces these : List (List ℕ)) → has_each (with_each spaces these) these ≡ true
serve_each spaces [] = refl
serve_each spaces (s ∷ these) =
    let all = with_each (with_space spaces s) these in
    let front = front_each (with_space spaces s) these in
    let first : has_space all s ≡ true = subst (λ l. has_space l s ≡ true) (sym front.1)
    (had_more (with_space spaces s) front.0 s (had_with spaces s)) in
    rw (first, serve_each (with_space spaces s) these) refl

none_declared : (s : List ℕ) → bytes_eq s [] ≡ true → is_declared s ≡ false
none_declared s e = rw e refl

xml_declared : (s : List ℕ) → bytes_eq s [] ≡ false → bytes_eq s xml_space ≡ true → is_declared s ≡ false
xml_declared s e f = rw (e, f) refl

other_declared : (s : List ℕ) → bytes_eq s [] ≡ false → bytes_eq s xml_space ≡ false → is_declared s ≡ true
other_declared s e f = rw (e, f) refl

module _ (spaces : List (List ℕ)) (s : List ℕ) where
  abbrev Adds : List (List ℕ) → Type 0
  Adds all = AddsSpaces spaces (s ∷ []) all

  kept_adds : has_space spaces s ≡ true → Adds spaces → Adds (with_space spaces s)
  kept_adds h a = subst Adds (sym (known_space_stays spaces s h)) a

  adds_with : Adds (with_space spaces s)
  adds_with = elim (cases_Bool (bytes_eq s [])) [
    | inl e ↦ kept_adds (rw e refl) (adds_undeclared spaces s (none_declared s e))
    | inr e ↦ elim (cases_Bool (bytes_eq s xml_space)) [
      | inl f ↦ kept_adds (rw (e, f) refl) (adds_undeclared spaces s (xml_declared s e f))
      | inr f ↦ elim (cases_Bool (list_any (bytes_eq s) spaces)) [
        | inl g ↦ kept_adds (rw (e, f, g) refl) (adds_known spaces s (other_declared s e f) g)
        | inr g ↦ subst Adds (sym (new_space_is_last spaces s (rw (e, f, g) refl))) (adds_new spaces s (other_declared s e f) g)
      ]
    ]
  ]

pub adds_each : (spaces these : List (List ℕ)) → AddsSpaces spaces these (with_each spaces these)
adds_each spaces [] = adds_none spaces
adds_each spaces (s ∷ these) =
    adds_both spaces (with_space spaces s) (with_each (with_space spaces s) these) (s ∷ []) these (adds_with spaces s)
    (adds_each (with_space spaces s) these)

-- added in two runs, and in a run of many
pub each_after : (spaces xs ys : List (List ℕ)) → with_each (with_each spaces xs) ys ≡ with_each spaces (xs ++ ys)
each_after spaces [] ys = refl
each_after spaces (x ∷ xs) ys = each_after (with_space spaces x) xs ys

pub run_more : {X : Type 0} (f : X → List (List ℕ)) (xs : List X) (i : ℕ) (x : X) (first now new : List (List ℕ)) → i < length xs
    → x ≡ get_or xs i x → now ≡ with_each first (flat_map f (take i xs)) → new ≡ with_each now (f x)
    → new ≡ with_each first (flat_map f (take (i + 1) xs))
run_more f xs i x first now new here is was more =
    let front = take i xs in
    let longer : take (i + 1) xs ≡ front ++ x ∷ [] = take_more xs i x here ∙ ap (λ z. front ++ z ∷ []) (sym is) in
    let spread : flat_map f (front ++ x ∷ []) ≡ flat_map f front ++ f x =
    flat_map-append f front (x ∷ []) ∙ ap (λ l. flat_map f front ++ l) (append-nil (f x)) in
    more ∙ ap (λ l. with_each l (f x)) was ∙ each_after first (flat_map f front) (f x)
    ∙ ap (with_each first) (sym spread ∙ ap (flat_map f) (sym longer))

-- (4) several filters

pub listed_is : (these : List (List ℕ)) → with_each [] these ≡ declared_among these
listed_is these = adds_each [] these [] refl

each_served : (spaces : List (List ℕ)) (filters : List Filter) → has_each spaces (flat_map filter_spaces filters) ≡ true
    → AllByRecursion (HasSpaces spaces) filters
each_served spaces [] h = tt
each_served spaces (f ∷ fs) h =
    let parts = and_parts (has_each spaces (filter_spaces f)) (has_each spaces (flat_map filter_spaces fs))
    (sym (list_all-append (has_space spaces) (filter_spaces f) (flat_map filter_spaces fs)) ∙ h) in
    (parts.0, each_served spaces fs parts.1)

pub listed_serve : ListedServeEach
listed_serve filters =
    each_served (declared_among (flat_map filter_spaces filters)) filters
    (subst (λ l. has_each l (flat_map filter_spaces filters) ≡ true) (listed_is (flat_map filter_spaces filters))
    (serve_each [] (flat_map filter_spaces filters)))

pub more_serve : MoreServe
more_serve spaces more filter h = each_more spaces more (filter_spaces filter) h
