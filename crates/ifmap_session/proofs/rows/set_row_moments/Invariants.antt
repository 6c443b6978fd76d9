use Rattle.ifmap_session.proofs.LastMomentLaws.{HasLastMomentsTo}
use Rattle.ifmap_session.proofs.rows.set_row_moments.Given as goal

abbrev pub invariant-loop-place : goal.invariant-loop-place
invariant-loop-place l = HasLastMomentsTo l.rows l.width l.place l.last_moments.items
