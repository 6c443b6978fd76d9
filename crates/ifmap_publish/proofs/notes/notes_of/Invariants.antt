use Rattle.std.proofs.Common.{◌≡◌, take}
use Rattle.ifmap_publish.specs.Notes.{notes_of}
use Rattle.ifmap_publish.proofs.notes.notes_of.Given as goal

abbrev pub invariant-loop-op : goal.invariant-loop-op
invariant-loop-op l = l.notes.items ≡ notes_of l.author (take l.op-index l.ops)
