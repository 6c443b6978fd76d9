-- Arranging twice is arranging once, and content without stamps stays so.
use Rattle.std.proofs.Common.{◌≡◌, not, map, ap, sym, ◌∙◌}
use Rattle.ifmap_elem.specs.Arranged.{arrange, arrange_child, sort_attributes}
use Rattle.ifmap_elem.specs.Canonical.{canonical_bytes}
use Rattle.ifmap_elem.specs.declared.elements.Child as the
use Rattle.ifmap_elem.specs.declared.elements.Element.{Element}
use Rattle.ifmap_elem.specs.laws.ArrangedLaws.{arranged_is}
use Rattle.ifmap_lemmas.specs.Filters.{filter_again}
use Rattle.ifmap_meta.specs.Keys.{content_bytes}
use Rattle.ifmap_meta.specs.Stamps.{content_of, is_stamp, without_stamps}
use Rattle.ifmap_meta.specs.laws.Order.{filter_sorted}
use Rattle.ifmap_elem.specs.laws.AgainLaws.{printed_again, with_parts}

pub content_printed : (e : Element) → canonical_bytes (arrange (content_of e)) ≡ content_bytes e
unfolding content_bytes
content_printed e = printed_again (content_of e)

-- content in order has no stamps
pub content_bare : (e : Element) → content_of (arrange (content_of e)) ≡ arrange (content_of e)
content_bare e =
    ap content_of (arranged_is (content_of e))
    ∙ ap (λ attributes. with_parts e attributes (map arrange_child e.children))
    (filter_sorted (λ a. not (is_stamp a)) (without_stamps e.attributes)
    ∙ ap sort_attributes (filter_again (λ a. not (is_stamp a)) e.attributes))
    ∙ sym (arranged_is (content_of e))
