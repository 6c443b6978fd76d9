use Rattle.std.proofs.Common.{◌≡◌, true, false, take}
use Rattle.std.specs.List.{list_all, list_any}
use Rattle.ifmap_filter.specs.Meets.{holds}
use Rattle.ifmap_filter.proofs.matching.+holding.Given as goal

abbrev pub invariant-all_hold-loop-part : goal.invariant-all_hold-loop-part
invariant-all_hold-loop-part l = list_all (holds l.element) (take l.part-index l.parts) ≡ true

abbrev pub invariant-one_holds-loop-part : goal.invariant-one_holds-loop-part
invariant-one_holds-loop-part l = list_any (holds l.element) (take l.part-index l.parts) ≡ false
