use Rattle.std.proofs.Common.{◌≡◌, sym, ◌∙◌, ◌<◌, inl, inr, arith}
use Rattle.std.proofs.lemmas.Bool.{cases_lt}
use Rattle.std.proofs.lemmas.Result.{IfOk-weaker}
use Rattle.ifmap_session.specs.Rows.{due_rows, live_in}
use Rattle.ifmap_session.specs.Sessions.{expired_serials}
use Rattle.ifmap_session.proofs.LastMomentLaws.{due_is, none_due_yet}
use Rattle.ifmap_session.proofs.sessions.Sessions.expired.Goals as goal

pub returns-in-Some : goal.returns-in-Some
returns-in-Some c =
    let fits = c.in-Some.ensures in
    let value = c.seconds.ensures.value in
    let bound = c.seconds.ensures.bound in
    let due = rw (c.deref.ensures.value, c.deref-in-Some.ensures.value) at c.due_serials.ensures in
    rw (← c.self.view_is) (IfOk-weaker c.due_serials.result
    (λ serials. serials ≡ due_rows c.self.inside.rows.items c.self.inside.width c.self.inside.last_moments.items c.in-Some.limit)
    (λ serials. serials ≡ expired_serials c.args.moment c.args.ttl (live_in c.self.inside.rows.items))
    (λ serials e. e ∙ due_is c.self.inside.width c.self.inside.last_moments.items c.self.inside.rows.items c.args.moment c.args.ttl
    c.in-Some.limit (omega arith) (omega arith) c.self.invariant.sessions.own.own c.self.invariant.moments) due)

pub returns-in-None : goal.returns-in-None
returns-in-None c =
    let none = c.in-None.ensures in
    let value = c.seconds.ensures.value in
    let early : c.args.moment < c.args.ttl = elim (cases_lt c.args.moment c.args.ttl) [
      | inl less ↦ less
      | inr more ↦ absurd (none (omega arith))
    ] in
    c.new.ensures.items ∙ rw (← c.self.view_is) (sym (none_due_yet c.args.moment c.args.ttl early (live_in c.self.inside.rows.items)).1)
