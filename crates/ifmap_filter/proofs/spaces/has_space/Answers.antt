use Rattle.std.proofs.Common.{[], ap, sym, ◌∙◌}
use Rattle.std.specs.Str.{bytes_eq}
use Rattle.ifmap_elem.specs.Scopes.{xml_space}
use Rattle.ifmap_filter.proofs.SpaceLaws.{had_among}
use Rattle.ifmap_filter.proofs.spaces.has_space.Goals as goal

pub returns : goal.returns
returns c =
    c.is_among.ensures
    ∙ sym (had_among c.args.spaces.now c.args.space.now
    (ap (λ s. bytes_eq s []) (sym c.as_str-text.ensures) ∙ sym c.eq.ensures ∙ c.if-eq.false)
    (ap (λ s. bytes_eq s xml_space) (sym c.as_str-text.ensures) ∙ sym c.eq-2.ensures ∙ c.if-eq-2.false))
