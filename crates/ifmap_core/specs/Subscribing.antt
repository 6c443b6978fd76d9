-- Operations that are ready in a session, and what they lead to.
use Rattle.std.specs.Prelude.{◌≡◌, ℕ, Result, Some}
use Rattle.ifmap_subscribes.specs.ifmap_changes.Between.{Asking, IsSoundSoFar, sessions_left, state_now}
use Rattle.ifmap_subscribes.specs.ifmap_changes.declared.parts.Parts.{Parts}
use Rattle.ifmap_core.specs.Answering.{GivesCompletion}
use Rattle.ifmap_core.specs.declared.completions.Completion.{Completion}
use Rattle.ifmap_subscribes.specs.ifmap_machine.Step.{answer_subscribed}
use Rattle.ifmap_session.specs.Sessions.{IsLive, Session, session_with_serial}
use Rattle.ifmap_subscribes.specs.declared.readying.Readying.{Readying}
use Rattle.ifmap_subscribes.specs.Readying.{AreReadied, told_after, told_at}
use Rattle.ifmap_subscribes.specs.ifmap_tellings.declared.tellings.Pending.{Pending}

-- operations were made ready in a session that is left
pub record AreReadyIn (serial : ℕ) (readying : Readying) (a : Asking) (parts : Parts) (pending : Pending) : Type 0 where
  pub ready : IsSoundSoFar a parts pending
  pub live : IsLive serial (sessions_left a parts.sessions)
  pub readied : AreReadied serial (told_at serial a parts pending) parts readying

-- a completion, if there is one, leads to what is answered where those of a session are accepted, from the parts before to those after
abbrev pub AcceptsReady : {E : Type 0} → Result Completion E → ℕ → Readying → Asking → Parts → Pending → Parts → Pending → Type 0
AcceptsReady result serial readying a old before new after =
    (s : Session) → session_with_serial serial (state_now a old before).sessions ≡ Some s → GivesCompletion result a new after
    (answer_subscribed (state_now a old before) s (Some (told_after serial readying (told_at serial a old before))))
