use Rattle.std.proofs.Common.{◌≡◌, length}
use Rattle.ifmap_meta.specs.Stamps.{without_stamps}
use Rattle.ifmap_meta.proofs.keys.after_content.Given as goal

-- stamps alone were passed
abbrev pub invariant-loop-first : goal.invariant-loop-first
invariant-loop-first l = without_stamps l.rest ≡ without_stamps l.fn.attributes

abbrev pub decreases-loop-first : goal.decreases-loop-first
decreases-loop-first l = length l.rest
