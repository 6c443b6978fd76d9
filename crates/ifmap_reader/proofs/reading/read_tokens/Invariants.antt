use Rattle.std.proofs.Common.{◌≤◌, ◌-◌, drop, length}
use Rattle.ifmap_reader.specs.Progress.{where_is}
use Rattle.ifmap_reader.proofs.Progressing.{At}
use Rattle.ifmap_reader.proofs.reading.read_tokens.Given as goal

abbrev pub invariant-loop-at : goal.invariant-loop-at
invariant-loop-at l = record {
  within : l.at ≤ length l.bytes;
  come : At l.bytes l.depth (where_is l.standing) (drop l.at l.bytes);
}

abbrev pub decreases-loop-at : goal.decreases-loop-at
decreases-loop-at l = length l.bytes - l.at
