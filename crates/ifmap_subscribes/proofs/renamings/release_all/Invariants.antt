use Rattle.std.specs.Vec.Iter.{into_iter_items}
use Rattle.ifmap_subscribes.proofs.RenamingStarts.{ReleasesOn}
use Rattle.ifmap_subscribes.proofs.renamings.release_all.Given as goal

abbrev pub invariant-loop-renaming : goal.invariant-loop-renaming
invariant-loop-renaming l = ReleasesOn l.fn.renamings l.fn.graph l.graph (into_iter_items l.renaming-iterator)
