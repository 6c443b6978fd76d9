use Rattle.std.proofs.Common.{◌≡◌, take}
use Rattle.ifmap_meta.specs.Stamps.{without_stamps}
use Rattle.ifmap_meta.proofs.stored.without_stamps.Given as goal

abbrev pub invariant-loop-attribute : goal.invariant-loop-attribute
invariant-loop-attribute l = l.made.items ≡ without_stamps (take l.attribute-index l.attributes)
