-- The namespaces of an element whose attributes are in order, level by level.
use Rattle.std.proofs.Common.{◌≡◌, ℕ, List, [], ◌∷◌, ◌++◌, map, refl, ap, sym, ◌∙◌, subst, Bor}
use Rattle.std.proofs.lemmas.List.Folds.{flat_map-map}
use Rattle.std.specs.List.{flat_map}
use Rattle.ifmap_elem.specs.Arranged.{arrange, arrange_child, sort_attributes}
use Rattle.ifmap_elem.specs.Namespaces.{spaces_of, spaces_of_child, AddsSpaces}
use Rattle.ifmap_elem.specs.declared.elements.Attribute.{Attribute}
use Rattle.ifmap_elem.specs.declared.elements.Element.{Element}
use Rattle.ifmap_elem.specs.laws.ArrangedLaws.{arranged_is}
use Rattle.ifmap_elem.specs.laws.NamespaceLaws.{adds_both}
use Rattle.ifmap_elem.specs.laws.PrintedElements.{space_of_attribute, spaces_is}

pub spaces_arranged : (e : Element) → spaces_of (arrange e) ≡ e.name.space ∷
    (map space_of_attribute (sort_attributes e.attributes) ++ flat_map (λ c. spaces_of_child (arrange_child c)) e.children)
spaces_arranged e =
    ap spaces_of (arranged_is e) ∙ spaces_is (record {
      name = e.name;
      attributes = sort_attributes e.attributes;
      children = map
          arrange_child e.children;
    })
    ∙ ap (λ l. e.name.space ∷ (map space_of_attribute (sort_attributes e.attributes) ++ l)) (flat_map-map spaces_of_child arrange_child
    e.children)

-- the namespaces of an element are added in three steps
pub adds_element : (e : Element) (a b c d : List (List ℕ)) → AddsSpaces a (e.name.space ∷ []) b
    → AddsSpaces b (map space_of_attribute (sort_attributes e.attributes)) c
    → AddsSpaces c (flat_map (λ c. spaces_of_child (arrange_child c)) e.children) d → AddsSpaces a (spaces_of (arrange e)) d
adds_element e a b c d h k l =
    subst (λ s. AddsSpaces a s d) (sym (spaces_arranged e))
    (adds_both a c d (e.name.space ∷ map space_of_attribute (sort_attributes e.attributes))
    (flat_map (λ c. spaces_of_child (arrange_child c)) e.children)
    (adds_both a b c (e.name.space ∷ []) (map space_of_attribute (sort_attributes e.attributes)) h k) l)

pub referred_spaces : (rs : List (Bor Attribute)) → map (λ (r : Bor Attribute). r.now.name.space) rs ≡ map space_of_attribute
    (map (λ (r : Bor Attribute). r.now) rs)
referred_spaces [] = refl
referred_spaces (r ∷ rs) = ap (λ l. r.now.name.space ∷ l) (referred_spaces rs)
