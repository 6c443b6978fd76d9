use Rattle.std.proofs.Common.{◌≡◌, [], drop}
use Rattle.ifmap_publish.specs.OnItems.{attach_all}
use Rattle.ifmap_publish.specs.Working.{IsSound}
use Rattle.ifmap_publish.proofs.edits.keep_last_of_few.Given as goal

-- no two have one key so far, and with the rest put over them they are all
abbrev pub invariant-loop-row : goal.invariant-loop-row
invariant-loop-row l = record {
  sound : IsSound l.last;
  rest : attach_all l.last (drop l.row-index l.rows) ≡ attach_all [] l.rows;
}
