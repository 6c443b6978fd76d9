-- The ends of sessions.
use Rattle.std.specs.Prelude.{ℕ, ◌==◌, List, [], ◌∷◌, filter, not, Option, None, Some}
use Rattle.std.specs.List.{list_any}
use Rattle.ifmap_machine.specs.State.{Standing, State}
use Rattle.ifmap_machine.specs.Telling.{overflow, tell}
use Rattle.ifmap_publish.specs.declared.who.Who.TheVariants.{Sessions}
use Rattle.ifmap_publish.specs.Retract.{retract}
use Rattle.ifmap_session.specs.Sessions.{Session, expired_serials, without_sessions}

-- the subscriptions without those of these sessions
abbrev pub without_standing : List ℕ → List Standing → List Standing
without_standing serials standing = filter (λ x. not (list_any (λ n. n == x.serial) serials)) standing

-- the state without these sessions and their subscriptions
abbrev pub drop_sessions : List ℕ → State → State
drop_sessions serials state = record state {
  sessions = without_sessions serials state.sessions;
  standing = without_standing serials state.standing;
}

-- and then without what was to stay as long as they, which the other sessions are told
abbrev pub end_sessions : List ℕ → State → State
end_sessions serials state = tell (retract (Sessions serials) state.graph) [] (drop_sessions serials state)

-- the same, where some end, with queues within their limits
abbrev pub end_some : List ℕ → State → State
end_some [] state = state
end_some (serial ∷ serials) state = overflow (end_sessions (serial ∷ serials) state)

-- the state without the sessions that are expired at its moment
abbrev pub expire : State → State
expire state = end_some (expired_serials state.moment state.ttl state.sessions) state

-- the state without the session that a client has, if it has one
abbrev pub end_former : Option Session → State → State
end_former None state = state
end_former (Some s) state = end_some (s.serial ∷ []) state
