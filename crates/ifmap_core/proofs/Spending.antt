-- The steps of an event. None are within any bound (`ask_none`, `event_none`). Those of a request in the client's own session are within
-- that of the session (`own_is`), request by request; those of a session that begins within that of the one it replaces (`begun_within`);
-- and those of the ends of sessions come before those of what is asked (`event_unexpired`, `event_expired`).
use Rattle.std.proofs.Common.{◌≡◌, ◌≢◌, refl, sym, ◌∙◌, ap, subst, inl, not, ℕ, Bool, true, false, List, [], ◌∷◌, Option, None, Some, max, arith}
use Rattle.std.specs.List.{list_any}
use Rattle.std.specs.Option.{option_map}
use Rattle.ifmap_subscribes.specs.ifmap_changes.Between.{Asking, sessions_left, state_now, state_at}
use Rattle.ifmap_subscribes.specs.ifmap_changes.Bounds.{IsEndedWithin, IsTakenWithin, IsToldWithin}
use Rattle.ifmap_subscribes.specs.ifmap_changes.declared.parts.Parts.{Parts}
use Rattle.ifmap_core.proofs.SessionIn.{session_in}
use Rattle.ifmap_core.proofs.Begun.{former_so_far, so_far_with}
use Rattle.ifmap_core.proofs.Cases.{author_is, own_client}
use Rattle.ifmap_core.proofs.Expiring.{some_expired}
use Rattle.ifmap_core.specs.Bounds.{IsAskWithin, IsBegunWithin, IsEventWithin, IsFormerWithin, IsWithinIf, IsWithinOwn, IsWithinTable}
use Rattle.ifmap_core.specs.declared.owning.Owner.TheVariants.{Own}
use Rattle.ifmap_core.specs.Completions.{IsOwner}
use Rattle.ifmap_subscribes.specs.ifmap_machine.declared.events.Ask.{Ask}
use Rattle.ifmap_subscribes.specs.ifmap_machine.declared.events.Ask.TheVariants.{Request, Lost}
use Rattle.ifmap_subscribes.specs.ifmap_machine.Ending.{drop_sessions, expire}
use Rattle.ifmap_subscribes.specs.ifmap_machine.Events.{Event}
use Rattle.ifmap_subscribes.specs.ifmap_machine.State.{State, advance}
use Rattle.ifmap_subscribes.specs.ifmap_machine.Step.{author_in, is_full}
use Rattle.ifmap_subscribes.specs.ifmap_publish.Apply.{Authorship, apply}
use Rattle.ifmap_subscribes.specs.ifmap_publish.declared.who.Who.{Who}
use Rattle.ifmap_subscribes.specs.ifmap_publish.declared.who.Who.TheVariants.{Publisher, Sessions}
use Rattle.ifmap_subscribes.specs.ifmap_requests.declared.publish_ops.PublishOp.{PublishOp}
use Rattle.ifmap_subscribes.specs.ifmap_requests.declared.requests.Request.TheVariants as the_request
use Rattle.ifmap_subscribes.specs.ifmap_requests.declared.requests.SubscribeOp.{SubscribeOp}
use Rattle.ifmap_session.specs.ifmap_search.declared.searches.Search.{Search}
use Rattle.ifmap_session.specs.Sessions.{IsAsBefore, Session, SessionTable, expired_serials, is_expired, is_same_text, session_of_client, session_with_id}
use Rattle.ifmap_session.specs.laws.TextLaws.{text_same}
use Rattle.ifmap_subscribes.specs.Bounds.{AreOpsWithin, IsWithinSpan, no_ops}
use Rattle.ifmap_subscribes.specs.ifmap_tellings.declared.tellings.Pending.{Pending}

-- ---- no steps

taken_none : (who : Who) (state : State) (n : ℕ) → IsTakenWithin who state n n
taken_none who state n = (n, omega arith, inl (omega arith))

pub ended_none : (serials : List ℕ) (state : State) (n : ℕ) → IsEndedWithin serials state n n
ended_none [] state n = omega arith
ended_none (s ∷ serials) state n = taken_none (Sessions (s ∷ serials)) (drop_sessions (s ∷ serials) state) n

if_none : (b : Bool) (Within : ℕ → ℕ → Type 0) (n : ℕ) → Within n n → IsWithinIf b Within n n
if_none true Within n w = w
if_none false Within n w = omega arith

own_none : (client : List ℕ) (found : Option Session) (Within : Session → ℕ → ℕ → Type 0) (n : ℕ) → ((s : Session) → Within s n n)
    → IsWithinOwn client found Within n n
own_none client None Within n w = omega arith
own_none client (Some s) Within n w = if_none (is_same_text s.client client) (Within s) n (w s)

pub former_none : (former : Option ℕ) (state : State) (n : ℕ) → IsFormerWithin former state n n
former_none None state n = omega arith
former_none (Some serial) state n = ended_none (serial ∷ []) state n

pub begun_none : (state : State) (client : List ℕ) (n : ℕ) → IsBegunWithin state client n n
begun_none state client n =
    let former = option_map (λ (s : Session). s.serial) (session_of_client client state.sessions) in
    if_none (not (is_full state client)) (IsFormerWithin former state) n (former_none former state n)

module _ (state : State) (client : List ℕ) (found : Option Session) (n : ℕ) where
  pub ends_none : IsWithinOwn client found (λ s. IsEndedWithin (s.serial ∷ []) state) n n
  ends_none = own_none client found (λ s. IsEndedWithin (s.serial ∷ []) state) n (λ s. ended_none (s.serial ∷ []) state n)

  pub publishes_none : (ops : List PublishOp)
      → IsWithinOwn client found (λ s. IsToldWithin (apply state.graph (author_in state s) ops) state) n n
  publishes_none ops =
      own_none client found (λ s. IsToldWithin (apply state.graph (author_in state s) ops) state) n (λ s. inl (omega arith))

  pub finds_none : (asked : Search) → IsWithinOwn client found (λ s. IsWithinSpan 3 state.graph asked) n n
  finds_none asked = own_none client found (λ s. IsWithinSpan 3 state.graph asked) n (λ s. inl (omega arith))

  pub subscribes_none : (ops : List SubscribeOp) → IsWithinOwn client found (λ s. AreOpsWithin state.graph ops) n n
  subscribes_none ops = own_none client found (λ s. AreOpsWithin state.graph ops) n (λ s. no_ops state.graph ops n)

  pub purges_none : (publisher : List ℕ)
      → IsWithinOwn client found (λ s. IsWithinIf (is_same_text publisher s.client) (IsTakenWithin (Publisher publisher) state)) n n
  purges_none publisher =
      own_none client found (λ s. IsWithinIf (is_same_text publisher s.client) (IsTakenWithin (Publisher publisher) state)) n
      (λ s. if_none (is_same_text publisher s.client) (IsTakenWithin (Publisher publisher) state) n
      (taken_none (Publisher publisher) state n))

pub ask_none : (state : State) (event : Event) (ask : Ask) (n : ℕ) → IsAskWithin state event ask n n
ask_none state event (Lost id) n = ends_none state event.client (session_with_id id state.sessions) n
ask_none state event (Request (the_request.NewSession limit)) n = begun_none state event.client n
ask_none state event (Request (the_request.RenewSession id)) n = omega arith
ask_none state event (Request (the_request.EndSession id)) n = ends_none state event.client (session_with_id id state.sessions) n
ask_none state event (Request (the_request.Publish id ops)) n =
    publishes_none state event.client (session_with_id id state.sessions) n ops
ask_none state event (Request (the_request.Search id asked)) n = finds_none state event.client (session_with_id id state.sessions) n asked
ask_none state event (Request (the_request.Subscribe id ops)) n =
    subscribes_none state event.client (session_with_id id state.sessions) n ops
ask_none state event (Request (the_request.Poll id)) n = omega arith
ask_none state event (Request (the_request.PurgePublisher id publisher)) n =
    purges_none state event.client (session_with_id id state.sessions) n publisher

-- ---- a request in the client's own session

module _ (state : State) (id client : List ℕ) (serial : ℕ) (o : IsOwner state.sessions id client (Own serial)) (before after : ℕ) where
  own_is : (Within : Session → ℕ → ℕ → Type 0) → Within o.0 before after → IsWithinOwn client (session_in state id) Within before after
  own_is Within w = rw (o.1, o.2) w

  pub ends_within : IsEndedWithin (serial ∷ []) state before after
      → IsWithinOwn client (session_in state id) (λ s. IsEndedWithin (s.serial ∷ []) state) before after
  ends_within w =
      own_is (λ s. IsEndedWithin (s.serial ∷ []) state)
      (subst (λ (n : ℕ). IsEndedWithin (n ∷ []) state before after) (sym o.3) w)

  pub publishes_within : (ops : List PublishOp)
      → (let by : Authorship = record { client = client; serial = serial; moment = state.moment } in
      IsToldWithin (apply state.graph by ops) state before after)
      → IsWithinOwn client (session_in state id) (λ s. IsToldWithin (apply state.graph (author_in state s) ops) state) before after
  publishes_within ops w =
      own_is (λ s. IsToldWithin (apply state.graph (author_in state s) ops) state)
      (subst (λ (by : Authorship). IsToldWithin (apply state.graph by ops) state before after) (sym (author_is state id client serial o)) w)

  pub finds_within : (asked : Search) → IsWithinSpan 3 state.graph asked before after
      → IsWithinOwn client (session_in state id) (λ s. IsWithinSpan 3 state.graph asked) before after
  finds_within asked w = own_is (λ s. IsWithinSpan 3 state.graph asked) w

  pub subscribes_within : (ops : List SubscribeOp) → AreOpsWithin state.graph ops before after
      → IsWithinOwn client (session_in state id) (λ s. AreOpsWithin state.graph ops) before after
  subscribes_within ops w = own_is (λ s. AreOpsWithin state.graph ops) w

  pub purges_within : (publisher : List ℕ) → publisher ≡ client → IsTakenWithin (Publisher client) state before after
      → IsWithinOwn client (session_in state id)
      (λ s. IsWithinIf (is_same_text publisher s.client) (IsTakenWithin (Publisher publisher) state)) before after
  purges_within publisher own w =
      let same : is_same_text publisher o.0.client ≡ true
      = text_same publisher o.0.client (own ∙ sym (own_client state id client serial o)) in
      own_is (λ s. IsWithinIf (is_same_text publisher s.client) (IsTakenWithin (Publisher publisher) state))
      (rw same (subst (λ (t : List ℕ). IsTakenWithin (Publisher t) state before after) (sym own) w))

-- ---- a session begins

pub begun_within : (state : State) (client : List ℕ) (before after : ℕ) → is_full state client ≡ false
    → IsFormerWithin (option_map (λ (s : Session). s.serial) (session_of_client client state.sessions)) state before after
    → IsBegunWithin state client before after
begun_within state client before after free w = rw free w

-- the session that the client has so far is the one that was found, also where there is more room for sessions
pub former_within : (a : Asking) (parts : Parts) (pending : Pending) (table : SessionTable) → IsAsBefore parts.sessions table
    → (former : Option ℕ) (before after : ℕ)
    → former ≡ option_map (λ (s : Session). s.serial) (session_of_client a.client (sessions_left a parts.sessions))
    → IsFormerWithin former (state_now a (record parts { sessions = table }) pending) before after
    → IsFormerWithin (option_map (λ (s : Session). s.serial) (session_of_client a.client (state_now a parts pending).sessions))
    (state_now a parts pending) before after
former_within a parts pending table same former before after is w =
    subst (λ (o : Option ℕ). IsFormerWithin o (state_now a parts pending) before after) (is ∙ former_so_far a parts pending)
    (subst (λ (s : State). IsFormerWithin former s before after) (so_far_with parts table same a pending) w)

-- ---- sessions that are expired

pub event_none : (state : State) (event : Event) (n : ℕ) → IsEventWithin state event n n
event_none state event n =
    (n, ended_none (expired_serials state.moment state.ttl state.sessions) state n, ask_none (expire state) event event.ask n)

-- none are
pub event_unexpired : (state : State) (event : Event) (before after : ℕ) → expire state ≡ state
    → IsAskWithin state event event.ask before after → IsEventWithin state event before after
event_unexpired state event before after same w = (
  before,
  ended_none (expired_serials state.moment state.ttl state.sessions) state before,
  subst (λ (s : State). IsAskWithin s event event.ask before after) (sym same) w,
)

ended_within : (serials : List ℕ) → serials ≢ [] → (state : State) (before after : ℕ)
    → IsTakenWithin (Sessions serials) (drop_sessions serials state) before after → IsEndedWithin serials state before after
ended_within [] some state before after w = absurd (some refl)
ended_within (n ∷ serials) some state before after w = w

-- some are
pub event_expired : (state : State) (event : Event) (serials listed : List ℕ)
    → list_any (is_expired state.moment state.ttl) state.sessions ≡ true
    → serials ≡ expired_serials state.moment state.ttl state.sessions → listed ≡ serials
    → (first : State) → first ≡ drop_sessions serials state → (before middle after : ℕ)
    → IsTakenWithin (Sessions listed) first before middle → IsAskWithin (expire state) event event.ask middle after
    → IsEventWithin state event before after
event_expired state event serials listed any is same first dropped before middle after w asked = (
  middle,
  ended_within (expired_serials state.moment state.ttl state.sessions) (some_expired state.moment state.ttl state.sessions any) state before
      middle (subst (λ (ns : List ℕ). IsTakenWithin (Sessions ns) (drop_sessions ns state) before middle) is
      (subst (λ (ns : List ℕ). IsTakenWithin (Sessions ns) (drop_sessions serials state) before middle) same
      (subst (λ (s : State). IsTakenWithin (Sessions listed) s before middle) dropped w))),
  asked,
)

-- an event in the state at a later moment
pub within_advanced : (ttl first later : ℕ) (parts : Parts) (state : State) (event : Event) → state_at ttl first parts ≡ state
    → later ≡ max first event.moment → (before after : ℕ) → IsEventWithin (state_at ttl later parts) event before after
    → IsWithinTable state event before after
within_advanced ttl first later parts state event is e before after w =
    subst (λ (s : State). IsEventWithin s event before after)
    (ap (λ (m : ℕ). state_at ttl m parts) e ∙ ap (advance event.moment) is) w
