use Rattle.std.proofs.Common.{◌≡◌, List, [], ◌∷◌, ◌++◌, codes, ap, ◌∙◌, append_assoc}
use Rattle.ifmap_elem.specs.Arranged.{sort_attributes}
use Rattle.ifmap_elem.specs.declared.elements.Attribute.{Attribute}
use Rattle.ifmap_elem.specs.Building.{bare_attribute}
use Rattle.ifmap_meta.proofs.stored.with_stamps.Goals as goal

-- two more attributes, and then all in order
in_order_with : (attributes start more all made : List Attribute) (a b p q : Attribute) → start ≡ attributes → more ≡ start ++ a ∷ []
    → all ≡ more ++ b ∷ [] → made ≡ sort_attributes all → a ≡ p → b ≡ q → made ≡ sort_attributes (attributes ++ p ∷ q ∷ [])
in_order_with attributes start more all made b c p q e f g h i j =
    rw (h, g, f, e, i, j) (ap sort_attributes (append_assoc attributes (p ∷ []) (q ∷ [])))

pub returns : goal.returns
returns c =
    in_order_with _ _ _ _ _ _ _ _ _ c.attributes.view_is c.in_ok-push.ensures.items c.in_ok-push-2.ensures.items c.put_in_order.ensures
    (c.in_ok-with_local.ensures ∙ ap (bare_attribute (codes "ifmap-publisher-id")) c.in_ok-publisher.ensures)
    (c.in_ok-with_local-2.ensures ∙ ap (bare_attribute (codes "ifmap-timestamp")) c.in_ok-moment.ensures)
