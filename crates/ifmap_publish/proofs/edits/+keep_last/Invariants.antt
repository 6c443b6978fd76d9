use Rattle.std.proofs.Common.{length}
use Rattle.ifmap_publish.proofs.edits.+keep_last.Given as goal

-- how many rows there are
abbrev pub decreases-keep_last : goal.decreases-keep_last
decreases-keep_last l = length l.rows.now
