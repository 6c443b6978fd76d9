use Rattle.std.proofs.Common.{◌∙◌, sym}
use Rattle.std.proofs.lemmas.List.Folds.{list_all-map}
use Rattle.ifmap_elem.specs.declared.elements.Child.{out-Child}
use Rattle.ifmap_replies.specs.ResultForms.{is_text}
use Rattle.ifmap_replies.proofs.notes.are_texts.Goals as goal

pub returns : goal.returns
returns c = c.all_texts.ensures ∙ sym (list_all-map is_text out-Child c.args.children.now)
