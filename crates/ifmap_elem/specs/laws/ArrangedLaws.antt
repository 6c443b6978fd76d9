-- What arranging does, level by level.
use Rattle.std.proofs.Common.{◌≡◌, ℕ, List, map, length, get_or, ◌<◌, Bool, IsTrue, ◌↔◌, ap, sym, ◌∙◌}
use Rattle.std.proofs.lemmas.List.{get_or-map}
use Rattle.ifmap_elem.specs.Folds.{at_element, at_child_element, at_child_text}
use Rattle.ifmap_elem.specs.Arranged.{arrange, arrange_child, sort_attributes, arrange_child_of, arrange_element_of}
use Rattle.ifmap_elem.specs.declared.elements.Child.{Child, out-Child, out-roll-Child}
use Rattle.ifmap_elem.specs.declared.elements.Child as the
use Rattle.ifmap_elem.specs.declared.elements.Child.TheOpen.{Child-F}
use Rattle.ifmap_elem.specs.declared.elements.Element.{Element}
use Rattle.ifmap_elem.specs.declared.elements.Child.TheVariants.{rolls-Element}

pub arranged_is : (e : Element) → arrange e ≡ record {
  name = e.name;
  attributes = sort_attributes e.attributes;
  children = map
      arrange_child e.children;
}
arranged_is e = at_element Child Element arrange_child_of arrange_element_of e

pub arranged_in : (e : Element) → arrange_child (the.Element e) ≡ the.Element (arrange e)
arranged_in e = at_child_element Child Element arrange_child_of arrange_element_of e

pub arranged_text : (t : List ℕ) → arrange_child (the.Text t) ≡ the.Text t
arranged_text t = at_child_text Child Element arrange_child_of arrange_element_of t

abbrev element_or : Element → Child-F Child Element → Element
element_or d (Child-F.Element e) = e
element_or d (Child-F.Text t) = d

pub out_element : (e : Element) → out-Child (the.Element e) ≡ Child-F.Element e
out_element e = ap out-Child (sym (rolls-Element e)) ∙ out-roll-Child (Child-F.Element e)

-- a child tells its element
pub one_element : (a b : Element) → the.Element a ≡ the.Element b → a ≡ b
one_element a b e = ap (element_or a) (sym (out_element a) ∙ ap out-Child e ∙ out_element b)

-- two elements in children are the same exactly where the children are
pub same_in : (a b : Element) → arrange a ≡ arrange b → arrange_child (the.Element a) ≡ arrange_child (the.Element b)
same_in a b e = arranged_in a ∙ ap (λ x. the.Element x) e ∙ sym (arranged_in b)

pub same_out : (a b : Element) → arrange_child (the.Element a) ≡ arrange_child (the.Element b) → arrange a ≡ arrange b
same_out a b e = one_element (arrange a) (arrange b) (sym (arranged_in a) ∙ e ∙ arranged_in b)

pub same_children_of : (x y : Child) (a b : Element) (r : Bool) → x ≡ the.Element a → y ≡ the.Element b
    → (IsTrue r ↔ (arrange a ≡ arrange b)) → IsTrue r ↔ (arrange_child x ≡ arrange_child y)
same_children_of x y a b r p q h = (
  λ t. ap arrange_child p ∙ same_in a b (h.0 t) ∙ sym (ap arrange_child q),
  λ e. h.1 (same_out a b (sym (ap arrange_child p) ∙ e ∙ ap arrange_child q)),
)

-- where two lists have other members at a place, they are not the same
pub other_at : (xs ys : List Child) (i : ℕ) (x y : Child) → i < length xs → i < length ys → x ≡ get_or xs i x → y ≡ get_or ys i y
    → (arrange_child x ≡ arrange_child y → ⊥) → map arrange_child xs ≡ map arrange_child ys → ⊥
other_at xs ys i x y l m p q other same =
    other (ap arrange_child p ∙ sym (get_or-map arrange_child xs i x (arrange_child x) l) ∙ ap (λ zs. get_or zs i (arrange_child x)) same
    ∙ get_or-map arrange_child ys i y (arrange_child x) m ∙ sym (ap arrange_child q))
