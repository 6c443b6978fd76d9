use Rattle.std.specs.BTreeMap.{get_by}
use Rattle.ifmap_prefixes.specs.Rows.{at_text}
use Rattle.ifmap_prefixes.proofs.Walking.{IsLatestBefore}
use Rattle.ifmap_prefixes.proofs.prefixes.last_index_along.Given as goal

abbrev pub invariant-loop-depth : goal.invariant-loop-depth
invariant-loop-depth l = IsLatestBefore (λ p. get_by (at_text p) l.paths) l.path l.depth l.found
