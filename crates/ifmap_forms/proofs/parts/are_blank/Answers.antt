use Rattle.std.proofs.Common.{◌∙◌, sym}
use Rattle.std.proofs.lemmas.List.Folds.{list_all-map}
use Rattle.ifmap_elem.specs.declared.elements.Child.{out-Child}
use Rattle.ifmap_elem.specs.WhiteSpace.{is_blank_part}
use Rattle.ifmap_forms.proofs.parts.are_blank.Goals as goal

pub returns : goal.returns
returns c = c.all_blank.ensures ∙ sym (list_all-map is_blank_part out-Child c.args.children.now)
