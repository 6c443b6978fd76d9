use Rattle.std.proofs.Common.{◌≡◌, ◌≤◌, ◌++◌, length, reverse, take}
use Rattle.ifmap_elem.specs.Scopes.{prefix_space}
use Rattle.ifmap_reader.specs.OpenElements.{scope_of}
use Rattle.ifmap_reader.proofs.allowed_tags.space_of.Given as goal

abbrev pub invariant-loop-outer : goal.invariant-loop-outer
invariant-loop-outer l = record {
  within : l.outer ≤ length l.open_elements;
  same : prefix_space (scope_of (reverse (take l.outer l.open_elements))) l.prefix ≡ prefix_space
      (l.bindings ++ scope_of (reverse l.open_elements)) l.prefix;
}

abbrev pub decreases-loop-outer : goal.decreases-loop-outer
decreases-loop-outer l = l.outer
