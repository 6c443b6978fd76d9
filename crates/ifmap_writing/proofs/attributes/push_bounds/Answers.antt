use Rattle.std.proofs.Common.{◌≡◌, List, [], ◌∷◌, ◌++◌, codes, append_assoc, ◌∙◌}
use Rattle.ifmap_lemmas.specs.Numerals.{numeral}
use Rattle.ifmap_elem.specs.Building.{bare_attribute}
use Rattle.ifmap_elem.specs.declared.elements.Attribute.{Attribute}
use Rattle.ifmap_writing.specs.Attributes.{filter_value, written_attribute}
use Rattle.ifmap_writing.proofs.attributes.push_bounds.Goals as goal

-- two more after some are these and the two
two_after : (old some : List Attribute) (x y : Attribute) → ((old ++ some) ++ (x ∷ [])) ++ (y ∷ []) ≡ old ++ (some ++ (x ∷ (y ∷ [])))
two_after old some x y = append_assoc (old ++ some) (x ∷ []) (y ∷ []) ∙ append_assoc old some (x ∷ (y ∷ []))

pub returns : goal.returns
returns c =
    rw (c.in_ok-push_number-2.ensures, c.in_ok-push_number.ensures, c.in_ok-push_filter.ensures)
    (two_after c.args.attributes.now.items
    (written_attribute (codes "match-links") (filter_value c.args.spaces.now c.args.search.now.match_links))
    (bare_attribute (codes "max-depth") (numeral c.args.search.now.max_depth))
    (bare_attribute (codes "max-size") (numeral c.args.search.now.max_size)))
