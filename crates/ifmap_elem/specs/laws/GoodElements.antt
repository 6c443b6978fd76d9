-- Elements that a document can have, arranged, of so many levels at most: an element of such children is one, a level higher.
use Rattle.std.proofs.Common.{◌≡◌, ℕ, ◌+◌, ◌≤◌, suc, List, [], ◌∷◌, map, refl, ap, sym, ◌∙◌, subst, arith}
use Rattle.std.specs.List.{AllByRecursion, flat_map}
use Rattle.ifmap_lemmas.specs.Members.{both_all}
use Rattle.ifmap_elem.specs.Arranged.{arrange, arrange_child, sort_attributes}
use Rattle.ifmap_elem.specs.Building.{as_children}
use Rattle.ifmap_elem.specs.Fit.{IsFit, IsFitAlone, IsFitAttribute, IsFitName}
use Rattle.ifmap_elem.specs.Folds.{at_child_element, at_element}
use Rattle.ifmap_elem.specs.Nesting.{child_levels, child_nesting, element_levels, greatest_of, nesting}
use Rattle.ifmap_elem.specs.Scopes.{AllDiffer}
use Rattle.ifmap_elem.specs.declared.elements.Attribute.{Attribute}
use Rattle.ifmap_elem.specs.declared.elements.Child as the
use Rattle.ifmap_elem.specs.declared.elements.Element.{Element}
use Rattle.ifmap_elem.specs.declared.elements.Name.{Name}
use Rattle.ifmap_elem.specs.laws.ArrangedLaws.{arranged_in, arranged_is}
use Rattle.ifmap_elem.specs.laws.ChildElements.{children_fit}
use Rattle.ifmap_elem.specs.laws.FitLaws.{elements_in, elements_of_child, fit_whole}

-- a document can have the element, it is arranged, and it nests at most so deep
pub record IsGood (levels : ℕ) (e : Element) : Type 0 where
  pub fit : IsFit e
  pub arranged : arrange e ≡ e
  pub within : nesting e ≤ levels

-- and so deep where it may nest deeper
pub good_within : (one more : ℕ) (e : Element) → one ≤ more → IsGood one e → IsGood more e
good_within one more e le g = record {
  fit = g.fit;
  arranged = g.arranged;
  within = let w : nesting e ≤ one = g.within in omega (arith, w, le);
}

pub all_within : (one more : ℕ) (es : List Element) → one ≤ more → AllByRecursion (IsGood one) es → AllByRecursion (IsGood more) es
all_within one more [] le f = tt
all_within one more (e ∷ es) le f = (good_within one more e le f.0, all_within one more es le f.1)

inside_fit : (levels : ℕ) (es : List Element) → AllByRecursion (IsGood levels) es
    → AllByRecursion IsFitAlone (flat_map elements_of_child (as_children es))
inside_fit levels [] f = tt
inside_fit levels (e ∷ es) f =
    both_all IsFitAlone (elements_of_child (the.Element e)) (flat_map elements_of_child (as_children es))
    (subst (AllByRecursion IsFitAlone) (sym (elements_in e)) f.0.fit) (inside_fit levels es f.1)

arranged_children : (levels : ℕ) (es : List Element) → AllByRecursion (IsGood levels) es
    → map arrange_child (as_children es) ≡ as_children es
arranged_children levels [] f = refl
arranged_children levels (e ∷ es) f =
    λ i. (arranged_in e ∙ ap (λ (x : Element). the.Element x) f.0.arranged) i ∷ arranged_children levels es f.1 i

levels_within : (levels : ℕ) (es : List Element) → AllByRecursion (IsGood levels) es
    → greatest_of (map child_nesting (as_children es)) ≤ levels
levels_within levels [] f = omega arith
levels_within levels (e ∷ es) f =
    let here : child_nesting (the.Element e) ≡ nesting e = at_child_element ℕ ℕ child_levels element_levels e in
    let first : nesting e ≤ levels = f.0.within in
    let others = levels_within levels es f.1 in
    omega (arith, here, first, others)

module _ (name : Name) (attributes : List Attribute) (fits : IsFitName name) (all : AllByRecursion IsFitAttribute attributes)
    (differ : AllDiffer (map (λ a. a.name) attributes)) (sorted : sort_attributes attributes ≡ attributes) where
  -- an element of elements such as these, with attributes in order, is one, a level higher
  pub good_elements : (levels : ℕ) (es : List Element) → AllByRecursion (IsGood levels) es
      → IsGood (levels + 1) (record { name = name; attributes = attributes; children = as_children es })
  good_elements levels es f =
      let e : Element = record { name = name; attributes = attributes; children = as_children es } in
      record {
        fit = fit_whole e (record { name = fits; attributes = all; names_differ = differ; children = children_fit es })
            (inside_fit levels es f);
        arranged = arranged_is e ∙ (λ i. record { name = name; attributes = sorted i; children = arranged_children levels es f i });
        within =
            let is : nesting e ≡ suc (greatest_of (map child_nesting (as_children es))) = at_element ℕ ℕ child_levels element_levels e in
            let most = levels_within levels es f in
            omega (arith, is, most);
      }
