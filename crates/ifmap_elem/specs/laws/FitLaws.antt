-- What fits in an element fits, level by level, and an element that fits does so with its attributes in order.
-- 1. The elements in an element are itself and those in its children (`elements_is`), by what the fold pairs with each child.
-- 2. So it fits exactly where it fits alone and all elements in its children do (`fit_parts`, `fit_whole`).
-- 3. Sorting attributes keeps what holds of each of them, and keeps their names different.
-- 4. Arranged children are texts, apart and not blank where the children are; so an element fits alone with its own arranged.
-- 5. By induction over elements: what fits does so arranged (`fit_arranged`), and nests as before (`nesting_arranged`).
use Rattle.std.proofs.Common.{◌≡◌, ◌≢◌, ℕ, suc, List, [], ◌∷◌, map, refl, ap, sym, ◌∙◌, subst, inl, inr}
use Rattle.std.specs.List.{AllByRecursion, flat_map, list_any}
use Rattle.std.specs.Ordering.{is_gt}
use Rattle.std.proofs.lemmas.Bool.{cases_Bool}
use Rattle.std.proofs.lemmas.List.Folds.{flat_map-map}
use Rattle.ifmap_elem.specs.Folds.{at_element, at_child_element, at_child_text, Each, by_children, each_child}
use Rattle.ifmap_elem.specs.Arranged.{arrange, arrange_child, attribute_order, sort_attributes}
use Rattle.ifmap_elem.specs.Nesting.{nesting, child_nesting, greatest_of, child_levels, element_levels}
use Rattle.ifmap_lemmas.specs.Sorting.{insert}
use Rattle.ifmap_elem.specs.Scopes.{AllDiffer}
use Rattle.ifmap_elem.specs.Fit.{IsFit, IsFitAlone, IsFitAttribute, AreFitChildren, HasCharacters, IsNotBlank, AreApart, is_element, elements_of, child_with_elements, element_with_elements, IsNamespace}
use Rattle.ifmap_elem.specs.declared.elements.Attribute.{Attribute}
use Rattle.ifmap_elem.specs.declared.elements.Child.{Child, fold-Child, out-Child, out-roll-Child}
use Rattle.ifmap_elem.specs.declared.elements.Child as the
use Rattle.ifmap_elem.specs.declared.elements.Child.TheVariants.{rolls-Text}
use Rattle.ifmap_elem.specs.declared.elements.Child.TheOpen.{Child-F}
use Rattle.ifmap_elem.specs.declared.elements.Element.{Element, fold-Element}
use Rattle.ifmap_elem.specs.laws.ArrangedLaws.{arranged_is, arranged_in, arranged_text, out_element}
use Rattle.ifmap_elem.specs.laws.CharacterLaws.{no_characters}
use Rattle.ifmap_lemmas.specs.Members.{all_both, both_all, all_of_map, map_of_all}

pub out_text : (t : List ℕ) → out-Child (the.Text t) ≡ Child-F.Text t
out_text t = ap out-Child (sym (rolls-Text t)) ∙ out-roll-Child (Child-F.Text t)

-- no namespace is one that a document can have
pub no_namespace : IsNamespace []
no_namespace = record { characters = no_characters; not_reserved = λ e. cc }

-- elements in elements

abbrev pair_of_element : Element → Element × List Element
pair_of_element = fold-Element (Child × List Element) (Element × List Element) child_with_elements element_with_elements

abbrev pair_of_child : Child → Child × List Element
pair_of_child = fold-Child (Child × List Element) (Element × List Element) child_with_elements element_with_elements

abbrev pub elements_of_child : Child → List Element
elements_of_child c = (pair_of_child c).1

firsts : (cs : List Child) → Each (λ c. (pair_of_child c).0 ≡ c) cs → map (λ (p : Child × List Element). p.0) (map pair_of_child cs) ≡ cs
firsts [] each = refl
firsts (c ∷ cs) each = (λ i. each.0 i ∷ firsts cs each.1 i)

first_in : (e : Element) → (pair_of_element e).0 ≡ e → (pair_of_child (the.Element e)).0 ≡ the.Element e
first_in e q = ap (λ (p : Child × List Element). p.0) (at_child_element (Child × List Element)
    (Element × List Element) child_with_elements element_with_elements e) ∙ ap (λ (x : Element). the.Element x) q

first_text : (t : List ℕ) → (pair_of_child (the.Text t)).0 ≡ the.Text t
first_text t = ap (λ (p : Child × List Element). p.0) (at_child_text (Child × List Element)
    (Element × List Element) child_with_elements element_with_elements t)

first_of_children : (e : Element) → Each (λ c. (pair_of_child c).0 ≡ c) e.children → (pair_of_element e).0 ≡ e
first_of_children e each =
    ap (λ (p : Element × List Element). p.0) (at_element (Child × List Element)
    (Element × List Element) child_with_elements element_with_elements e)
    ∙ (λ i. record { name = e.name; attributes = e.attributes; children = firsts e.children each i })

first_child : (c : Child) → (pair_of_child c).0 ≡ c
first_child = each_child (λ c. (pair_of_child c).0 ≡ c) (λ e. (pair_of_element e).0 ≡ e) first_in first_text first_of_children

all_firsts : (cs : List Child) → map (λ (p : Child × List Element). p.0) (map pair_of_child cs) ≡ cs
all_firsts [] = refl
all_firsts (c ∷ cs) = (λ i. first_child c i ∷ all_firsts cs i)

pub elements_is : (e : Element) → elements_of e ≡ e ∷ flat_map elements_of_child e.children
elements_is e =
    ap (λ (p : Element × List Element). p.1) (at_element (Child × List Element)
    (Element × List Element) child_with_elements element_with_elements e)
    ∙ (λ i. record { name = e.name; attributes = e.attributes; children = all_firsts e.children i } ∷ flat_map-map
    (λ (p : Child × List Element). p.1) pair_of_child e.children i)

pub elements_in : (e : Element) → elements_of_child (the.Element e) ≡ elements_of e
elements_in e = ap (λ (p : Child × List Element). p.1) (at_child_element (Child × List Element)
    (Element × List Element) child_with_elements element_with_elements e)

pub elements_text : (t : List ℕ) → elements_of_child (the.Text t) ≡ []
elements_text t = ap (λ (p : Child × List Element). p.1) (at_child_text (Child × List Element)
    (Element × List Element) child_with_elements element_with_elements t)

pub fit_parts : (e : Element) → IsFit e → IsFitAlone e × AllByRecursion IsFitAlone (flat_map elements_of_child e.children)
fit_parts e fit = let h : AllByRecursion IsFitAlone (e ∷ flat_map elements_of_child e.children) = subst (AllByRecursion IsFitAlone)
    (elements_is e) fit in (h.0, h.1)

pub fit_whole : (e : Element) → IsFitAlone e → AllByRecursion IsFitAlone (flat_map elements_of_child e.children) → IsFit e
fit_whole e alone inside =
    let h : AllByRecursion IsFitAlone (e ∷ flat_map elements_of_child e.children) = (alone, inside) in subst (AllByRecursion IsFitAlone)
    (sym (elements_is e)) h

-- what holds of all in two lists

-- attributes in order

all_placed : (P : Attribute → Type 0) (x : Attribute) (ys : List Attribute) → P x → AllByRecursion P ys
    → AllByRecursion P (insert attribute_order x ys)
all_placed P x [] p f = (p, tt)
all_placed P x (y ∷ ys) p f = elim (cases_Bool (is_gt (attribute_order x y))) [
  | inl e ↦ rw e (f.0, all_placed P x ys p f.1)
  | inr e ↦ rw e (p, f)
]

all_sorted : (P : Attribute → Type 0) (xs : List Attribute) → AllByRecursion P xs → AllByRecursion P (sort_attributes xs)
all_sorted P [] f = tt
all_sorted P (x ∷ xs) f = all_placed P x (sort_attributes xs) f.0 (all_sorted P xs f.1)

module _ {Y : Type 0} (f : Attribute → Y) where
  abbrev apart_from : Y → Attribute → Type 0
  apart_from y a = y ≢ f a

  differ_placed : (x : Attribute) (ys : List Attribute) → AllByRecursion (apart_from (f x)) ys → AllDiffer (map f ys)
      → AllDiffer (map f (insert attribute_order x ys))
  differ_placed x [] other d = (tt, tt)
  differ_placed x (y ∷ ys) other d = elim (cases_Bool (is_gt (attribute_order x y))) [
    | inl e ↦ rw e (
      map_of_all (λ z. f y ≢ z) f (insert attribute_order x ys)
          (all_placed (apart_from (f y)) x ys (λ s. other.0 (sym s)) (all_of_map (λ z. f y ≢ z) f ys d.0)),
      differ_placed x ys other.1 d.1,
    )
    | inr e ↦ rw e (map_of_all (λ z. f x ≢ z) f (y ∷ ys) other, d)
  ]

  pub differ_sorted : (xs : List Attribute) → AllDiffer (map f xs) → AllDiffer (map f (sort_attributes xs))
  differ_sorted [] d = tt
  differ_sorted (x ∷ xs) d =
      differ_placed x (sort_attributes xs) (all_sorted (apart_from (f x)) xs (all_of_map (λ z. f x ≢ z) f xs d.0)) (differ_sorted xs d.1)

-- children with their attributes in order

abbrev arranged_part : Child-F Child Element → Child-F Child Element
arranged_part (Child-F.Element e) = Child-F.Element (arrange e)
arranged_part (Child-F.Text t) = Child-F.Text t

over_child : (c : Child) → out-Child (arrange_child c) ≡ arranged_part (out-Child c)
over_child = each_child (λ c. out-Child (arrange_child c) ≡ arranged_part (out-Child c)) (λ e. Unit {0})
    (λ e none. ap out-Child (arranged_in e) ∙ out_element (arrange e) ∙ ap arranged_part (sym (out_element e)))
    (λ t. ap out-Child (arranged_text t) ∙ out_text t ∙ ap arranged_part (sym (out_text t))) (λ e each. tt)

over_children : (cs : List Child) → map arranged_part (map out-Child cs) ≡ map out-Child (map arrange_child cs)
over_children [] = refl
over_children (c ∷ cs) = (λ i. sym (over_child c) i ∷ over_children cs i)

texts_over : (xs : List (Child-F Child Element)) → AllByRecursion HasCharacters xs → AllByRecursion HasCharacters (map arranged_part xs)
texts_over [] f = tt
texts_over (Child-F.Element e ∷ xs) f = (tt, texts_over xs f.1)
texts_over (Child-F.Text t ∷ xs) f = (f.0, texts_over xs f.1)

apart_over : (xs : List (Child-F Child Element)) → AreApart xs → AreApart (map arranged_part xs)
apart_over [] f = tt
apart_over (Child-F.Element e ∷ xs) f = apart_over xs f
apart_over (Child-F.Text t ∷ []) f = tt
apart_over (Child-F.Text t ∷ (Child-F.Element e ∷ xs)) f = apart_over xs f
apart_over (Child-F.Text t ∷ (Child-F.Text u ∷ xs)) f = absurd f

any_over : (xs : List (Child-F Child Element)) → list_any is_element (map arranged_part xs) ≡ list_any is_element xs
any_over [] = refl
any_over (Child-F.Element e ∷ xs) = refl
any_over (Child-F.Text t ∷ xs) = any_over xs

blank_over : (xs : List (Child-F Child Element)) → AllByRecursion IsNotBlank xs → AllByRecursion IsNotBlank (map arranged_part xs)
blank_over [] f = tt
blank_over (Child-F.Element e ∷ xs) f = (tt, blank_over xs f.1)
blank_over (Child-F.Text t ∷ xs) f = (f.0, blank_over xs f.1)

fit_over : (xs : List (Child-F Child Element)) → AreFitChildren xs → AreFitChildren (map arranged_part xs)
fit_over xs f = record {
  texts = texts_over xs f.texts;
  apart = apart_over xs f.apart;
  beside = λ any. blank_over xs
      (f.beside (sym (any_over xs) ∙ any));
}

abbrev arranged_here : Element → Element
arranged_here e = record { name = e.name; attributes = sort_attributes e.attributes; children = map arrange_child e.children }

alone_arranged : (e : Element) → IsFitAlone e → IsFitAlone (arranged_here e)
alone_arranged e f = record {
  name = f.name;
  attributes = all_sorted IsFitAttribute e.attributes f.attributes;
  names_differ = differ_sorted (λ a. a.name) e.attributes f.names_differ;
  children = subst AreFitChildren (over_children e.children) (fit_over (map out-Child e.children) f.children);
}

abbrev FitStays : Child → Type 0
FitStays c = AllByRecursion IsFitAlone (elements_of_child c) → AllByRecursion IsFitAlone (elements_of_child (arrange_child c))

children_stay : (cs : List Child) → Each FitStays cs → AllByRecursion IsFitAlone (flat_map elements_of_child cs)
    → AllByRecursion IsFitAlone (flat_map elements_of_child (map arrange_child cs))
children_stay [] each f = tt
children_stay (c ∷ cs) each f =
    let parts = all_both IsFitAlone (elements_of_child c) (flat_map elements_of_child cs) f in
    both_all IsFitAlone (elements_of_child (arrange_child c)) (flat_map elements_of_child (map arrange_child cs)) (each.0 parts.0)
    (children_stay cs each.1 parts.1)

-- an element that fits does so with its attributes in order
pub fit_arranged : (e : Element) → IsFit e → IsFit (arrange e)
fit_arranged = by_children FitStays (λ e. IsFit e → IsFit (arrange e)) in_element in_text in_children
  where
    in_element : (e : Element) → (IsFit e → IsFit (arrange e)) → FitStays (the.Element e)
    in_element e q f =
        subst (AllByRecursion IsFitAlone) (sym (ap elements_of_child (arranged_in e) ∙ elements_in (arrange e)))
        (q (subst (AllByRecursion IsFitAlone) (elements_in e) f))

    in_text : (t : List ℕ) → FitStays (the.Text t)
    in_text t f = subst (AllByRecursion IsFitAlone) (sym (ap elements_of_child (arranged_text t) ∙ elements_text t)) tt

    in_children : (e : Element) → Each FitStays e.children → IsFit e → IsFit (arrange e)
    in_children e each f =
        let parts = fit_parts e f in
        subst IsFit (sym (arranged_is e)) (fit_whole (arranged_here e) (alone_arranged e parts.0) (children_stay e.children each parts.1))

-- the nesting stays

abbrev NestsAlike : Child → Type 0
NestsAlike c = child_nesting (arrange_child c) ≡ child_nesting c

nest_alike : (cs : List Child) → Each NestsAlike cs → map child_nesting (map arrange_child cs) ≡ map child_nesting cs
nest_alike [] each = refl
nest_alike (c ∷ cs) each = (λ i. each.0 i ∷ nest_alike cs each.1 i)

pub nesting_arranged : (e : Element) → nesting (arrange e) ≡ nesting e
nesting_arranged = by_children NestsAlike (λ e. nesting (arrange e) ≡ nesting e)
    (λ e q. ap child_nesting (arranged_in e) ∙ at_child_element ℕ ℕ child_levels element_levels (arrange e) ∙ q
    ∙ sym (at_child_element ℕ ℕ child_levels element_levels e))
    (λ t. ap child_nesting (arranged_text t))
    (λ e each. ap nesting (arranged_is e) ∙ at_element ℕ ℕ child_levels element_levels (arranged_here e)
    ∙ ap (λ l. suc (greatest_of l)) (nest_alike e.children each)
    ∙ sym (at_element ℕ ℕ child_levels element_levels e))
