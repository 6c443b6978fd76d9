-- The summary of a drill.
use Rattle.std.specs.Prelude.{ℕ, List, ◌++◌, codes}
use Rattle.std.specs.Fmt.{decimal}
use Rattle.ifmap_core.specs.Counts.{link_count}
use Rattle.ifmap_drill.specs.declared.drill_counts.DrillCounts.{DrillCounts}
use Rattle.ifmap_drill.specs.DrillCounts.{counts_of}
use Rattle.ifmap_drill.specs.Drills.{Drilling, drilling_after}

-- a name, a space, a number and a newline
abbrev pub line : List ℕ → ℕ → List ℕ
line name number = name ++ codes " " ++ decimal number ++ codes "\n"

-- ten lines
abbrev pub summary_text : DrillCounts → List ℕ
summary_text counts =
    line (codes "events") counts.events ++ line (codes "sessions") counts.sessions ++ line (codes "subscribes") counts.subscribes
    ++ line (codes "publishes") counts.publishes ++ line (codes "searches") counts.searches ++ line (codes "polls") counts.polls
    ++ line (codes "renewals") counts.renewals ++ line (codes "held") counts.held ++ line (codes "told") counts.told
    ++ line (codes "links") counts.links

-- all that was counted, with the links of the graph at the end
abbrev pub summary_of : Drilling → DrillCounts
summary_of d = counts_of d.history (link_count d.state)

-- what is written for a drill
abbrev pub drill_text : ℕ → ℕ → List ℕ
drill_text key count = summary_text (summary_of (drilling_after key count))
