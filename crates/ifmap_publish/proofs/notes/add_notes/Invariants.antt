use Rattle.std.proofs.Common.{◌≡◌, ◌++◌, map, take}
use Rattle.ifmap_publish.specs.Notes.{note_of}
use Rattle.ifmap_publish.proofs.notes.add_notes.Given as goal

abbrev pub invariant-loop-metadata : goal.invariant-loop-metadata
invariant-loop-metadata l = l.notes.items ≡ l.initial.notes.items ++ map (note_of l.author l.fn.item) (take l.metadata-index l.elements)
