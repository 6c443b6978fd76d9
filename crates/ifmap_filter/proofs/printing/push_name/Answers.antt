use Rattle.std.proofs.Common.{◌≡◌, ◌++◌, [], ap, sym, ◌∙◌}
use Rattle.std.specs.Prelude.{OnOk, string_bytes}
use Rattle.std.specs.Str.{bytes_eq}
use Rattle.ifmap_elem.specs.Scopes.{xml_space}
use Rattle.ifmap_filter.specs.Printing.{space_place}
use Rattle.ifmap_filter.proofs.PrintLaws.{name_by_number, name_by_xml}
use Rattle.ifmap_filter.proofs.printing.push_name.Goals as goal

pub returns-then-eq-2 : goal.returns-then-eq-2
returns-then-eq-2 c =
    name_by_xml c.args.spaces.now c.args.name.now c.as_str-local.result.now
    (λ t. OnOk c.push_qualified.result (string_bytes c.push_qualified.new.out ≡ string_bytes c.args.out.now ++ t)) c.as_str-local.ensures
    (ap (λ s. bytes_eq s []) (sym c.as_str-space.ensures) ∙ sym c.eq.ensures ∙ c.if-eq.false)
    (ap (λ s. bytes_eq s xml_space) (sym c.as_str-space.ensures) ∙ sym c.eq-2.ensures ∙ c.if-eq-2.true)
    c.push_qualified.ensures

pub returns : goal.returns
returns c =
    name_by_number c.args.spaces.now c.args.name.now c.as_str-local.result.now
    (λ t. OnOk c.push_numbered.result (string_bytes c.push_numbered.new.out ≡ string_bytes c.args.out.now ++ t)) c.as_str-local.ensures
    (ap (λ s. bytes_eq s []) (sym c.as_str-space.ensures) ∙ sym c.eq.ensures ∙ c.if-eq.false) c.place_of.result
    (ap (λ s. bytes_eq s xml_space) (sym c.as_str-space.ensures) ∙ sym c.eq-2.ensures ∙ c.if-eq-2.false)
    (c.place_of.ensures.place ∙ ap (λ s. space_place s c.args.spaces.now) c.as_str-space.ensures)
    c.push_numbered.ensures
