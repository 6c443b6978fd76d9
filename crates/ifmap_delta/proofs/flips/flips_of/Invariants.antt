use Rattle.std.proofs.Common.{take}
use Rattle.ifmap_region.specs.Marks.{mark_of}
use Rattle.ifmap_delta.specs.Flipped.{AreFlipsOf}
use Rattle.ifmap_delta.specs.Located.{AreLocated}
use Rattle.ifmap_delta.specs.SeenViews.{ViewSeen}
use Rattle.ifmap_delta.proofs.flips.flips_of.Given as goal

abbrev pub invariant-loop-i : goal.invariant-loop-i
invariant-loop-i l = (old new : ViewSeen) → AreLocated old new l.changes l.located
    → AreFlipsOf old new l.search (mark_of l.region.marks.entries) (take l.i l.changes) l.flips.items
