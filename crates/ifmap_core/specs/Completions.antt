-- What is left to do of an event when its change of the graph is made: it changes sessions and subscriptions alone, and takes no memory.
use Rattle.std.specs.Prelude.{◌≡◌, ◌≢◌, ◌+◌, ◌-◌, ◌^◌, ◌<◌, ◌≤◌, ℕ, Bool, true, false, List, [], ◌∷◌, ◌++◌, length, Option, None, Some, IfSome, vec_capacity, vec_len}
use Rattle.std.specs.BTreeMap.{get}
use Rattle.std.specs.List.{AllByRecursion}
use Rattle.std.specs.Ordering.{nat_cmp}
use Rattle.ifmap_subscribes.specs.ifmap_changes.Between.{AreOrdered, AreWithinLimits, Asking, HasNoSubscriptions, IsSoundSoFar, IsSteady, rest_of, sessions_left, seen_now, state_now}
use Rattle.ifmap_core.specs.declared.completions.Completion.{Completion}
use Rattle.ifmap_core.specs.declared.completions.Completion.TheVariants.{Say, Accept, End, Open, Rename, Poll}
use Rattle.ifmap_core.specs.declared.owning.Owner.{Owner}
use Rattle.ifmap_core.specs.declared.owning.Owner.TheVariants.{Own, Another, Nobody}
use Rattle.ifmap_subscribes.specs.ifmap_changes.Changes.{take_session}
use Rattle.ifmap_subscribes.specs.ifmap_changes.declared.parts.Parts.{Parts}
use Rattle.ifmap_subscribes.specs.declared.renamings.Renaming.{Renaming}
use Rattle.ifmap_subscribes.specs.ifmap_tellings.declared.tellings.Pending.{Pending}
use Rattle.ifmap_subscribes.specs.Renamings.{CanRenameEach, IsOfSession, starts_by, item_count, rename_all, told_in_parts, told_so_far}
use Rattle.ifmap_subscribes.specs.ifmap_tellings.Tellings.{IsWide, count_where}
use Rattle.ifmap_subscribes.specs.ifmap_delta.SeenViews.{IsUpToDate}
use Rattle.ifmap_ident.specs.declared.codes.Code.TheVariants.{InvalidSessionID, PollResultsTooBig}
use Rattle.ifmap_subscribes.specs.ifmap_machine.declared.events.Answer.{Answer}
use Rattle.ifmap_subscribes.specs.ifmap_machine.declared.events.Answer.TheVariants as the_answer
use Rattle.ifmap_subscribes.specs.ifmap_machine.declared.events.Ask.{Ask}
use Rattle.ifmap_subscribes.specs.ifmap_machine.Ending.{drop_sessions, without_standing}
use Rattle.ifmap_subscribes.specs.ifmap_machine.Events.{Event}
use Rattle.ifmap_subscribes.specs.ifmap_machine.State.{State, standing_in}
use Rattle.ifmap_subscribes.specs.ifmap_machine.Step.{poll_in, refusal, renew, step_ask, with_told}
use Rattle.ifmap_subscribes.specs.ifmap_machine.Subscribing.{most_names}
use Rattle.ifmap_subscribes.specs.ifmap_machine.Telling.{limit_note}
use Rattle.ifmap_subscribes.specs.ifmap_replies.declared.replies.Reply.TheVariants as the_reply
use Rattle.ifmap_session.specs.ifmap_search.declared.results.PollItem.{PollItem}
use Rattle.ifmap_session.specs.ifmap_search.declared.results.PollItem.TheVariants as the_item
use Rattle.ifmap_session.specs.ifmap_search.Sizes.{queue_size}
use Rattle.ifmap_session.specs.Sessions.{IsLive, Opening, Session, SessionTable, change, is_same_text, most_sessions, session_from, session_of_client, session_with_id, session_with_serial, spare_of, with_error, with_last, without_sessions}
use Rattle.ifmap_subscribes.specs.ifmap_standing.declared.standing.Standing.{Standing}

-- the sessions without the one that a client had, if it had one
abbrev pub after_former : Option ℕ → List Session → List Session
after_former None live = live
after_former (Some n) live = without_sessions (n ∷ []) live

-- the state without the session that a client had, if it had one
abbrev pub drop_former : Option ℕ → State → State
drop_former None state = state
drop_former (Some n) state = drop_sessions (n ∷ []) state

-- a session that was ready begins in place of another
abbrev pub open_session : Option ℕ → Opening → ℕ → State → State
open_session former opening limit state = record (drop_former former state) {
  counter = state.counter + 1;
  sessions = after_former former state.sessions ++ session_from opening limit state.moment ∷ [];
}

-- the names of a session are renamed, and its request was accepted
abbrev pub rename_in : ℕ → List Renaming → State → Option Session → State
rename_in serial renamings state None = state
rename_in serial renamings state (Some s) =
    renew serial (with_told serial (rename_all serial renamings (record { queue = s.queue; standing = state.standing })) state)

-- what a poll of a session is told
abbrev pub poll_found : State → Bool → Option Session → State × Answer
poll_found state again None = (state, the_answer.Held)
poll_found state again (Some s) = poll_in state again s

-- what a poll is answered of a queue
abbrev pub poll_answer : List PollItem → Answer
poll_answer [] = the_answer.Held
poll_answer (item ∷ items) = the_answer.Reply (the_reply.Polled (item ∷ items))

-- the sessions where a poll was accepted: one that is asked again is no sign of life
abbrev pub first_renewed : Bool → ℕ → ℕ → List Session → List Session
first_renewed true serial moment live = live
first_renewed false serial moment live = change serial (with_last moment) live

-- the state after a completion, and the answer
abbrev pub after_completion : Completion → State → State × Answer
after_completion (Say answer) state = (state, answer)
after_completion (Accept serial answer) state = (renew serial state, answer)
after_completion (End serial answer) state = (drop_sessions (serial ∷ []) state, answer)
after_completion (Open former opening limit publisher) state =
    (open_session former opening limit state, the_answer.Reply (the_reply.NewSession opening.id publisher limit))
after_completion (Rename serial renamings) state =
    (rename_in serial renamings state (session_with_serial serial state.sessions), the_answer.Reply the_reply.Subscribed)
after_completion (Poll serial again) state = poll_found state again (session_with_serial serial state.sessions)

-- a session can begin in place of another
pub record CanOpen (former : Option ℕ) (opening : Opening) (limit : ℕ) (table : SessionTable) : Type 0 where
  pub room : 1 ≤ table.room
  pub live : IfSome former (λ n. IsLive n table.live)
  pub none : session_of_client opening.client (after_former former table.live) ≡ None
  pub few : length (after_former former table.live) < most_sessions
  pub counter : table.counter < 2 ^ 64 - 1
  pub next : opening.serial ≡ table.counter + 1
  pub wide : IsWide limit

-- the names of a session can be renamed: what is to stand keeps what the graph has, there is room, and neither is the queue greater
-- than its limit afterwards nor are there more subscriptions than may be
pub record CanRename (serial : ℕ) (renamings : List Renaming) (a : Asking) (parts : Parts) (pending : Pending) : Type 0 where
  pub live : IsLive serial (sessions_left a parts.sessions)
  pub session : AllByRecursion (IsOfSession serial) renamings
  pub kept : AllByRecursion (λ x. IsUpToDate (seen_now parts.graph) x.subscription) (starts_by renamings)
  pub places : vec_len parts.standing + length renamings ≤ vec_capacity parts.standing
  pub room : count_where (get nat_cmp pending.tellings serial) + item_count renamings ≤ spare_of serial parts.sessions.spare
  pub within : (s : Session) → session_with_serial serial (state_now a parts pending).sessions ≡ Some s
      → queue_size (rename_all serial renamings (told_so_far a parts pending s)).queue ≤ s.limit
  pub few : (s : Session) → session_with_serial serial (state_now a parts pending).sessions ≡ Some s
      → length (standing_in serial (rename_all serial renamings (told_so_far a parts pending s)).standing) ≤ most_names

-- after renamings the queue of the session is within its limit, and it has no more subscriptions than it may
abbrev pub FitsAfter : ℕ → List Renaming → Parts → Type 0
FitsAfter serial renamings parts =
    (s : Session) → session_with_serial serial parts.sessions.live ≡ Some s
    → (queue_size (rename_all serial renamings (told_in_parts parts s)).queue ≤ s.limit)
    × (length (standing_in serial (rename_all serial renamings (told_in_parts parts s)).standing) ≤ most_names)

-- a completion can be applied
abbrev pub CanApply : Completion → Asking → Parts → Pending → Type 0
CanApply (Say answer) a parts pending = Unit {0}
CanApply (Accept serial answer) a parts pending = IsLive serial (sessions_left a parts.sessions)
CanApply (End serial answer) a parts pending = IsLive serial (sessions_left a parts.sessions) × HasNoSubscriptions serial parts pending
CanApply (Open former opening limit publisher) a parts pending =
    CanOpen former opening limit (rest_of a parts.sessions) × IfSome former (λ n. HasNoSubscriptions n parts pending)
CanApply (Rename serial renamings) a parts pending = CanRename serial renamings a parts pending
CanApply (Poll serial again) a parts pending = IsLive serial (sessions_left a parts.sessions)

-- the same of parts where nothing is pending any more
abbrev pub CanApplyTo : Completion → Parts → Type 0
CanApplyTo (Say answer) parts = Unit {0}
CanApplyTo (Accept serial answer) parts = IsLive serial parts.sessions.live
CanApplyTo (End serial answer) parts =
    IsLive serial parts.sessions.live × AllByRecursion (λ (x : Standing). x.serial ≢ serial) parts.standing.items
CanApplyTo (Open former opening limit publisher) parts =
    CanOpen former opening limit parts.sessions
    × IfSome former (λ n. AllByRecursion (λ (x : Standing). x.serial ≢ n) parts.standing.items)
CanApplyTo (Rename serial renamings) parts = CanRenameEach serial renamings parts × FitsAfter serial renamings parts
CanApplyTo (Poll serial again) parts = IsLive serial parts.sessions.live

-- the state where a session is told one error in place of all, since its queue would have that size, and has no subscription
abbrev pub state_with_error : ℕ → ℕ → State → State
state_with_error serial size state = record state {
  sessions = change serial
      (λ (s : Session). with_error (the_item.Error None PollResultsTooBig (limit_note size s.limit)) s) state.sessions;
  standing = without_standing (serial ∷ []) state.standing;
}

-- the subscriptions that a completion is to make stand
abbrev pub starts_in : Completion → List Standing
starts_in (Say answer) = []
starts_in (Accept serial answer) = []
starts_in (End serial answer) = []
starts_in (Open former opening limit publisher) = []
starts_in (Rename serial renamings) = starts_by renamings
starts_in (Poll serial again) = []

-- all holds of parts that is to hold between two events, once these subscriptions stand
pub record WouldBeParts (more : List Standing) (parts : Parts) : Type 0 where
  pub steady : IsSteady parts.graph (parts.standing.items ++ more)
  pub ordered : AreOrdered parts.sessions.live parts.standing.items
  pub kept : AllByRecursion (λ x. IsUpToDate (seen_now parts.graph) x.subscription) parts.standing.items
  pub within : AreWithinLimits parts.sessions.live

-- an event can be finished by a completion: the graph is steady once what the completion is to make stand does, what is so far is sound,
-- and the completion can be applied
pub record CanFinish (completion : Completion) (a : Asking) (parts : Parts) (pending : Pending) : Type 0 where
  pub steady : IsSteady parts.graph (parts.standing.items ++ starts_in completion)
  pub ready : IsSoundSoFar a parts pending
  pub can : CanApply completion a parts pending

-- an event can be finished by a completion, which leads from the state that the parts are in to that state and answer
pub record LeadsToAnswer (completion : Completion) (a : Asking) (parts : Parts) (pending : Pending) (wanted : State × Answer) : Type 0 where
  pub can : CanFinish completion a parts pending
  pub leads : after_completion completion (state_now a parts pending) ≡ wanted

-- whose the session of an id is: the client's, with that serial; another's; or nobody's
abbrev pub IsOwner : List Session → List ℕ → List ℕ → Owner → Type 0
IsOwner live id client (Own serial) =
    (s : Session) × (session_with_id id live ≡ Some s) × (is_same_text s.client client ≡ true) × (s.serial ≡ serial)
    × (session_with_serial serial live ≡ Some s)
IsOwner live id client Another = (s : Session) × (session_with_id id live ≡ Some s) × (is_same_text s.client client ≡ false)
IsOwner live id client Nobody = session_with_id id live ≡ None

-- the same of the session that a client had, if it had one
abbrev pub take_former : Option ℕ → State → State
take_former None state = state
take_former (Some n) state = take_session n state

-- what a poll is told where no live session has its id: the end, where it is asked again
abbrev pub end_of_poll : Bool → Completion
end_of_poll true = Say (the_answer.Reply the_reply.Ended)
end_of_poll false = Say (refusal InvalidSessionID)

-- a completion leads from a state with these sessions to what the step makes of it, and is one of a live session that holds nothing
pub record IsStepCompletion (live : List Session) (event : Event) (ask : Ask) (completion : Completion) : Type 0 where
  pub plain : starts_in completion ≡ []
  pub can : (parts : Parts) → parts.sessions.live ≡ live → CanApplyTo completion parts
  pub done : (state : State) → state.sessions ≡ live → after_completion completion state ≡ step_ask state event ask
