use Rattle.std.specs.Vec.Iter.{into_iter_items}
use Rattle.ifmap_subscribes.proofs.RenamingTold.{RenamesOn}
use Rattle.ifmap_subscribes.proofs.renamings.rename_each.Given as goal

abbrev pub invariant-loop-renaming : goal.invariant-loop-renaming
invariant-loop-renaming l = RenamesOn l.serial l.fn.renamings l.fn.parts l.parts (into_iter_items l.renaming-iterator)
