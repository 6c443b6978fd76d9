-- What a drill keeps. No public clause cites this file.
use Rattle.ifmap_drill.specs.declared.drills.Drill.{Drill}
use Rattle.ifmap_drill.specs.DrillCounts.{counts_of}
use Rattle.ifmap_drill.specs.Drills.{Drilling}

-- the state, the ids and the generator, and what the history counts as
abbrev pub drill_of : Drilling → Drill
drill_of d = record { core = d.state; ids = d.ids; draws = d.draws; counts = counts_of d.history 0 }
