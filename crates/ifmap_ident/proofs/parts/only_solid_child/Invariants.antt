use Rattle.std.proofs.Common.{◌≡◌, option_copied, option_to_list, take}
use Rattle.std.specs.List.{filter}
use Rattle.ifmap_ident.specs.Parts.{is_solid}
use Rattle.ifmap_ident.proofs.parts.only_solid_child.Given as goal

abbrev pub invariant-loop-child : goal.invariant-loop-child
invariant-loop-child l = filter is_solid (take l.child-index l.children) ≡ option_to_list (option_copied l.found)
