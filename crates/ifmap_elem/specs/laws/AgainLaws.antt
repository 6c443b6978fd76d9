-- What is done again changes nothing.
use Rattle.std.proofs.Common.{◌≡◌, List, sym, [], ◌∷◌, map, refl, ap, ◌∙◌, codes}
use Rattle.ifmap_elem.specs.Arranged.{sort_attributes, arrange_child, arrange}
use Rattle.ifmap_elem.specs.declared.elements.Attribute.{Attribute}
use Rattle.ifmap_elem.specs.laws.AttributeOrder.{one_order, sorted_permutation}
use Rattle.ifmap_elem.specs.declared.elements.Child.{Child}
use Rattle.ifmap_elem.specs.declared.elements.Element.{Element}
use Rattle.ifmap_elem.specs.Folds.{Each, by_children}
use Rattle.ifmap_elem.specs.laws.ArrangedLaws.{arranged_in, arranged_is, arranged_text}
use Rattle.ifmap_elem.specs.declared.elements.Child as the
use Rattle.ifmap_elem.specs.Canonical.{canonical_bytes, root_bytes}
use Rattle.ifmap_elem.specs.Namespaces.{numbered_prefixes}

pub sorted_again : (xs : List Attribute) → sort_attributes (sort_attributes xs) ≡ sort_attributes xs
sorted_again xs = sym (one_order xs (sort_attributes xs) (sorted_permutation xs))

-- an element with these parts in place of its own
abbrev pub with_parts : Element → List Attribute → List Child → Element
with_parts e attributes children = record { name = e.name; attributes = attributes; children = children }

abbrev pub StaysArranged : Child → Type 0
StaysArranged c = arrange_child (arrange_child c) ≡ arrange_child c

pub children_again : (cs : List Child) → Each StaysArranged cs → map arrange_child (map arrange_child cs) ≡ map arrange_child cs
children_again [] each = refl
children_again (c ∷ cs) each = (λ i. each.0 i ∷ children_again cs each.1 i)

pub arranged_again : (e : Element) → arrange (arrange e) ≡ arrange e
arranged_again = by_children StaysArranged (λ e. arrange (arrange e) ≡ arrange e)
    (λ e q. ap arrange_child (arranged_in e) ∙ arranged_in (arrange e) ∙ ap (λ (x : Element). the.Element x) q ∙ sym (arranged_in e))
    (λ t. ap arrange_child (arranged_text t))
    (λ e each. ap arrange (arranged_is e)
    ∙ arranged_is (with_parts e (sort_attributes e.attributes) (map arrange_child e.children))
    ∙ (λ i. with_parts e (sorted_again e.attributes i) (children_again e.children each i))
    ∙ sym (arranged_is e))

pub printed_again : (e : Element) → canonical_bytes (arrange e) ≡ canonical_bytes e
printed_again e = ap (root_bytes (numbered_prefixes (codes "f") 1 [])) (arranged_again e)
