use Rattle.std.proofs.Common.{◌++◌, reverse, vec_len}
use Rattle.ifmap_reader.specs.OpenElements.{scope_of}
use Rattle.ifmap_reader.proofs.Attributing.{Attributing}
use Rattle.ifmap_reader.specs.AllowedTags.{plain_part}
use Rattle.ifmap_reader.proofs.allowed_tags.attributes_of.Given as goal

abbrev pub invariant-loop-assignment : goal.invariant-loop-assignment
invariant-loop-assignment l =
    Attributing (l.bindings ++ scope_of (reverse l.open_elements)) (plain_part l.fn.assignments) l.made.items
    (plain_part (reverse l.left.items))

abbrev pub decreases-loop-assignment : goal.decreases-loop-assignment
decreases-loop-assignment l = vec_len l.left
