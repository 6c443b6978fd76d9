use Rattle.ifmap_session.proofs.LastMomentLaws.{due_within}
use Rattle.ifmap_session.proofs.rows.due_serials.Goals as goal

pub serials_of-requires : goal.serials_of-requires
serials_of-requires c =
    rw (c.deref.ensures.value, c.in_ok-nodes.ensures) (due_within c.args.width c.args.last_moments.now c.args.rows.now c.args.limit
    c.requires.limit c.requires.last_moments.has_moments)
