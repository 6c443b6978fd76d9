use Rattle.std.proofs.Common.{sym, ◌∙◌, ap, ◌<◌, inl, inr, arith}
use Rattle.std.proofs.lemmas.Bool.{cases_lt}
use Rattle.ifmap_session.specs.Rows.{live_in}
use Rattle.ifmap_session.specs.LastMoments.{is_any_due}
use Rattle.ifmap_session.proofs.LastMomentLaws.{any_is, none_due_yet}
use Rattle.ifmap_session.proofs.sessions.Sessions.any_expired.Goals as goal

pub returns-in-Some : goal.returns-in-Some
returns-in-Some c =
    let fits = c.in-Some.ensures in
    let value = c.seconds.ensures.value in
    let bound = c.seconds.ensures.bound in
    rw (← c.self.view_is) (c.is_any_due.ensures ∙ ap (λ t. is_any_due c.self.inside.width t c.in-Some.limit) c.deref.ensures.value
    ∙ any_is c.self.inside.width c.self.inside.last_moments.items c.self.inside.rows.items c.args.moment c.args.ttl c.in-Some.limit
    (omega arith)
    (omega arith) c.self.invariant.moments)

pub returns-in-None : goal.returns-in-None
returns-in-None c =
    let none = c.in-None.ensures in
    let value = c.seconds.ensures.value in
    let early : c.args.moment < c.args.ttl = elim (cases_lt c.args.moment c.args.ttl) [
      | inl less ↦ less
      | inr more ↦ absurd (none (omega arith))
    ] in
    rw (← c.self.view_is) (sym (none_due_yet c.args.moment c.args.ttl early (live_in c.self.inside.rows.items)).0)
