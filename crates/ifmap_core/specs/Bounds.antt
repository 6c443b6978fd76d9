-- How many steps an event takes, also at want of memory: first what ends the sessions that are expired, then what is asked.
--
--   each change of the graph                        the sum of the bounds of the subscriptions that stand at it (IsToldWithin)
--   each change that takes away, besides            one more than there are items with an attachment before it (IsTakenWithin)
--   a search                                        three times the links of all that it reaches (IsWithinSpan 3)
--   each update of a subscribe                      four times the links of all that its search reaches (AreOpsWithin)
use Rattle.std.specs.Prelude.{◌≤◌, ℕ, Bool, true, false, not, List, [], ◌∷◌, Option, None, Some, option_map}
use Rattle.ifmap_subscribes.specs.ifmap_changes.Bounds.{IsEndedWithin, IsTakenWithin, IsToldWithin}
use Rattle.ifmap_subscribes.specs.ifmap_machine.declared.events.Ask.{Ask}
use Rattle.ifmap_subscribes.specs.ifmap_machine.declared.events.Ask.TheVariants.{Request, Lost}
use Rattle.ifmap_subscribes.specs.ifmap_machine.Ending.{expire}
use Rattle.ifmap_subscribes.specs.ifmap_machine.Events.{Event}
use Rattle.ifmap_subscribes.specs.ifmap_machine.State.{State, advance}
use Rattle.ifmap_subscribes.specs.ifmap_machine.Step.{author_in, is_full}
use Rattle.ifmap_subscribes.specs.ifmap_publish.Apply.{apply}
use Rattle.ifmap_subscribes.specs.ifmap_publish.declared.who.Who.TheVariants.{Publisher}
use Rattle.ifmap_subscribes.specs.ifmap_requests.declared.requests.Request.TheVariants as the_request
use Rattle.ifmap_session.specs.Sessions.{Session, expired_serials, is_same_text, session_of_client, session_with_id}
use Rattle.ifmap_subscribes.specs.Bounds.{AreOpsWithin, IsWithinSpan}

-- the steps did not rise
abbrev pub TakesNone : ℕ → ℕ → Type 0
TakesNone before after = after ≤ before

-- they rose within that where a test passes, and not at all where it does not
abbrev pub IsWithinIf : Bool → (ℕ → ℕ → Type 0) → ℕ → ℕ → Type 0
IsWithinIf true Within before after = Within before after
IsWithinIf false Within before after = TakesNone before after

-- within that in the session that a request names, where it is live and the client's
abbrev pub IsWithinOwn : List ℕ → Option Session → (Session → ℕ → ℕ → Type 0) → ℕ → ℕ → Type 0
IsWithinOwn client None Within before after = TakesNone before after
IsWithinOwn client (Some s) Within before after = IsWithinIf (is_same_text s.client client) (Within s) before after

-- the session ends that a client had, if it had one
abbrev pub IsFormerWithin : Option ℕ → State → ℕ → ℕ → Type 0
IsFormerWithin None state before after = TakesNone before after
IsFormerWithin (Some n) state before after = IsEndedWithin (n ∷ []) state before after

-- a session begins in place of that one, where the client can be given one
abbrev pub IsBegunWithin : State → List ℕ → ℕ → ℕ → Type 0
IsBegunWithin state client before after =
    IsWithinIf (not (is_full state client))
    (IsFormerWithin (option_map (λ (s : Session). s.serial) (session_of_client client state.sessions)) state) before after

-- what is asked, once the sessions that are expired have ended
abbrev pub IsAskWithin : State → Event → Ask → ℕ → ℕ → Type 0
IsAskWithin state event (Lost id) before after =
    IsWithinOwn event.client (session_with_id id state.sessions) (λ s. IsEndedWithin (s.serial ∷ []) state) before after
IsAskWithin state event (Request (the_request.NewSession limit)) before after = IsBegunWithin state event.client before after
IsAskWithin state event (Request (the_request.RenewSession id)) before after = TakesNone before after
IsAskWithin state event (Request (the_request.EndSession id)) before after =
    IsWithinOwn event.client (session_with_id id state.sessions) (λ s. IsEndedWithin (s.serial ∷ []) state) before after
IsAskWithin state event (Request (the_request.Publish id ops)) before after =
    IsWithinOwn event.client (session_with_id id state.sessions)
    (λ s. IsToldWithin (apply state.graph (author_in state s) ops) state) before after
IsAskWithin state event (Request (the_request.Search id asked)) before after =
    IsWithinOwn event.client (session_with_id id state.sessions) (λ s. IsWithinSpan 3 state.graph asked) before after
IsAskWithin state event (Request (the_request.Subscribe id ops)) before after =
    IsWithinOwn event.client (session_with_id id state.sessions) (λ s. AreOpsWithin state.graph ops) before after
IsAskWithin state event (Request (the_request.Poll id)) before after = TakesNone before after
IsAskWithin state event (Request (the_request.PurgePublisher id publisher)) before after =
    IsWithinOwn event.client (session_with_id id state.sessions)
    (λ s. IsWithinIf (is_same_text publisher s.client) (IsTakenWithin (Publisher publisher) state)) before after

-- what an event asks, in a state without expired sessions
abbrev pub IsAnsweredWithin : State → Event → ℕ → ℕ → Type 0
IsAnsweredWithin state event before after = IsAskWithin state event event.ask before after

-- an event, in a state at its moment
abbrev pub IsEventWithin : State → Event → ℕ → ℕ → Type 0
IsEventWithin state event before after =
    (middle : ℕ) × IsEndedWithin (expired_serials state.moment state.ttl state.sessions) state before middle
    × IsAnsweredWithin (expire state) event middle after

-- the sum of the table's rows for an event
abbrev pub IsWithinTable : State → Event → ℕ → ℕ → Type 0
IsWithinTable state event before after = IsEventWithin (advance event.moment state) event before after
