use Rattle.std.proofs.Common.{◌≡◌, ◌+◌, drop}
use Rattle.ifmap_replies.specs.Runs.{run_length}
use Rattle.ifmap_replies.proofs.runs.run_length.Given as goal

-- those so far, and as many of the rest as go on with the last
abbrev pub invariant-loop-entry : goal.invariant-loop-entry
invariant-loop-entry l = record {
  counted : l.length ≡ l.entry-index;
  rest : run_length l.fn.first l.fn.others ≡ l.length + run_length l.last (drop l.entry-index l.fn.others);
}
