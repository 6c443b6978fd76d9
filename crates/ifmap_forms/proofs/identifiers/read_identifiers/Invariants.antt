use Rattle.std.proofs.Common.{[], drop}
use Rattle.ifmap_forms.specs.Gathering.{IsRestAfter}
use Rattle.ifmap_forms.specs.Items.{identifiers_check}
use Rattle.ifmap_forms.specs.Tables.{parts_in}
use Rattle.ifmap_forms.proofs.identifiers.read_identifiers.Given as goal

abbrev pub invariant-loop-child : goal.invariant-loop-child
invariant-loop-child l = IsRestAfter (identifiers_check l.most [] (parts_in l.children))
    (identifiers_check l.most l.made.items (parts_in (drop l.child-index l.children))) l.made.items
