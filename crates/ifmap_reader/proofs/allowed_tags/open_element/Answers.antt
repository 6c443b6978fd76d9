use Rattle.std.proofs.Common.{reverse}
use Rattle.ifmap_reader.specs.OpenElements.{scope_of}
use Rattle.ifmap_reader.proofs.NameLaws.{no_names}
use Rattle.ifmap_reader.proofs.allowed_tags.open_element.Goals as goal

pub returns-then-not-branch : goal.returns-then-not-branch
returns-then-not-branch c =
    no_names (scope_of (reverse c.args.open_elements.now)) c.args.tag c.in_ok-bindings.bindings c.as_slice.result.now
    c.in_ok-attributes.attributes c.as_slice-2.result.now c.in_ok-have_other_names.field-0
    c.in_ok-bindings.ensures.0 c.as_slice.ensures c.in_ok-attributes.ensures
    c.as_slice-2.ensures c.in_ok-have_other_names.ensures c.if-not-branch.true
