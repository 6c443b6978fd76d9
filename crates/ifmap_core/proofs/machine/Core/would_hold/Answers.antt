use Rattle.std.proofs.Common.{◌≡◌, sym, ◌∙◌, subst, ℕ, false}
use Rattle.std.specs.List.{list_any}
use Rattle.ifmap_core.proofs.Holds.{held_where, hold_back}
use Rattle.ifmap_core.proofs.machine.Core.would_hold.Goals as goal
use Rattle.ifmap_session.specs.Sessions.{is_expired}

pub returns-clause-exact : goal.returns-clause-exact
returns-clause-exact c =
    rw (← c.self.view_is, ← c.event.view_is) (
      (λ yes. (
        c.in-Some.id.now,
        c.in-Some.ensures.some,
        c.if-not-event.false,
        subst (λ (m : ℕ). list_any (is_expired m c.self.inside.ttl) c.self.inside.parts.sessions.live ≡ false) c.later_moment-moment.ensures
            (sym c.any_expired.ensures ∙ c.if-any_expired.false),
        c.has_nothing.ensures.0 yes,
      )),
      (λ h. c.has_nothing.ensures.1 (hold_back c.event.inside.ask c.self.inside.parts.sessions.live c.event.inside.client
          c.in-Some.id.now _ _ c.in-Some.ensures.some h)),
    )

pub returns-clause-held : goal.returns-clause-held
returns-clause-held c =
    held_where c.has_nothing.result c.args.self.now c.args.event.now (returns-clause-exact c).0
