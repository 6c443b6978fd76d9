use Rattle.std.proofs.Common.{[], List, subst}
use Rattle.ifmap_forms.specs.Answers.{IsCheckedAs}
use Rattle.ifmap_forms.specs.Items.{identifiers_check}
use Rattle.ifmap_forms.specs.Tables.{Part}
use Rattle.ifmap_forms.proofs.CutLaws.{front_parts}
use Rattle.ifmap_forms.proofs.lists.read_front.Goals as goal

pub returns : goal.returns
returns c =
    subst (λ (parts : List Part). IsCheckedAs (λ made. made.items) (identifiers_check 2 [] parts) c.read_identifiers.result)
    (front_parts c.args.children.now c.take_front.result.now c.args.index c.take_front.ensures c.requires.cut) c.read_identifiers.ensures
