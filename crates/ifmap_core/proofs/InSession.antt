-- A request in the session of an id, where it can be answered, by whose the session is that is left.
-- Plan: (1) in the client's own (`module _ .. (own : IsOwner .. (Own serial))`): what a request leads to that changes nothing, then what
-- one leads to whose change of the parts is made, and its steps; (2) no steps, which are within the bound of each request; (3) in
-- another's session and in nobody's, where nothing is done.
use Rattle.std.proofs.Common.{◌≡◌, refl, ◌∙◌, ap, subst, ℕ, ◌<◌, ◌≤◌, Bool, List, [], ◌∷◌, Result, Some}
use Rattle.std.proofs.lemmas.Result.{IfOk-weaker}
use Rattle.std.specs.Result.{IfOk}
use Rattle.ifmap_subscribes.specs.ifmap_changes.Between.{Asking, HasNoSubscriptions, IsSoundSoFar, IsSteady, sessions_left, state_now}
use Rattle.ifmap_subscribes.specs.ifmap_changes.Bounds.{IsEndedWithin, IsTakenWithin, IsToldWithin}
use Rattle.ifmap_subscribes.specs.ifmap_changes.Changes.{state_taken_from, take_session}
use Rattle.ifmap_subscribes.specs.ifmap_changes.declared.parts.Parts.{Parts}
use Rattle.ifmap_core.proofs.SessionIn.{session_in}
use Rattle.ifmap_core.proofs.Cases.{accepts, another_denied, another_hears, another_polls, end_answer, end_said, ends, finds, finds_not, leads_plain, leads_said, live_after, loses, nobody_hears, nobody_missing, nobody_polls, own_left, owner_so_far, polls, publishes, purges, purges_not, renews, says, subscribes}
use Rattle.ifmap_core.proofs.Spending.{ends_none, ends_within, finds_none, finds_within, publishes_none, publishes_within, purges_none, purges_within, subscribes_none, subscribes_within}
use Rattle.ifmap_core.specs.Answering.{CanAnswer, GivesCompletion, case_in}
use Rattle.ifmap_core.specs.Bounds.{IsWithinIf, IsWithinOwn}
use Rattle.ifmap_core.specs.declared.completions.Completion.{Completion}
use Rattle.ifmap_core.specs.declared.completions.Completion.TheVariants.{Say, Accept, End, Poll}
use Rattle.ifmap_core.specs.declared.owning.Owner.TheVariants.{Own, Another, Nobody}
use Rattle.ifmap_core.specs.Completions.{IsOwner, LeadsToAnswer, end_of_poll}
use Rattle.ifmap_subscribes.specs.ifmap_fresh.Fresh.{fresh, fresh_size}
use Rattle.ifmap_ident.specs.declared.codes.Code.TheVariants.{AccessDenied, InvalidSessionID, SearchResultsTooBig}
use Rattle.ifmap_subscribes.specs.ifmap_machine.declared.events.Answer.{Answer}
use Rattle.ifmap_subscribes.specs.ifmap_machine.declared.events.Answer.TheVariants as the_answer
use Rattle.ifmap_subscribes.specs.ifmap_machine.State.{State}
use Rattle.ifmap_subscribes.specs.ifmap_machine.Step.{answer_subscribed, author_in, end_session, lose, poll, publish, purge, refusal, refusal_with, renew_session, search, subscribe}
use Rattle.ifmap_subscribes.specs.ifmap_machine.Subscribing.{subscribe_ops}
use Rattle.ifmap_subscribes.specs.ifmap_machine.Telling.{limit_note, overflow, tell}
use Rattle.ifmap_subscribes.specs.ifmap_publish.Apply.{Authorship, apply}
use Rattle.ifmap_subscribes.specs.ifmap_publish.Notes.{notes_of}
use Rattle.ifmap_subscribes.specs.ifmap_publish.declared.who.Who.TheVariants.{Publisher}
use Rattle.ifmap_subscribes.specs.ifmap_replies.declared.replies.Reply.TheVariants as the_reply
use Rattle.ifmap_subscribes.specs.ifmap_requests.declared.publish_ops.PublishOp.{PublishOp}
use Rattle.ifmap_subscribes.specs.ifmap_requests.declared.requests.SubscribeOp.{SubscribeOp}
use Rattle.ifmap_session.specs.ifmap_search.declared.results.Entry.{Entry}
use Rattle.ifmap_session.specs.ifmap_search.declared.searches.Search.{Search}
use Rattle.ifmap_session.specs.Sessions.{IsLive, Session, is_same_text, session_with_serial}
use Rattle.ifmap_subscribes.specs.Bounds.{AreOpsWithin, IsWithinSpan}
use Rattle.ifmap_subscribes.specs.ifmap_tellings.declared.tellings.Pending.{Pending}
use Rattle.ifmap_subscribes.specs.ifmap_tellings.Tellings.{HasSameSessions}

module _ {a : Asking} {parts : Parts} {pending : Pending} (can : CanAnswer a parts pending) (id : List ℕ) where
  abbrev state : State
  state = state_now a parts pending

  -- ---- in the client's own session

  module _ (serial : ℕ) (own : IsOwner (sessions_left a parts.sessions) id a.client (Own serial)) where
    owner : IsOwner state.sessions id a.client (Own serial)
    owner = owner_so_far a parts pending id a.client (Own serial) own

    left : IsLive serial (sessions_left a parts.sessions)
    left = own_left (sessions_left a parts.sessions) id a.client serial own

    pub renews_own : LeadsToAnswer (Accept serial (the_answer.Reply the_reply.Renewed)) a parts pending
        (case_in state a.client id (renew_session state))
    renews_own =
        accepts a parts pending can.steady can.ready serial (the_answer.Reply the_reply.Renewed) _ left
        (renews state id a.client serial owner)

    pub finds_own : (asked : Search) (entries : List Entry) → entries ≡ fresh state.graph asked
        → fresh_size state.graph asked ≤ asked.max_size
        → LeadsToAnswer (Accept serial (the_answer.Reply (the_reply.Found entries))) a parts pending
        (case_in state a.client id (search state asked))
    finds_own asked entries e few =
        accepts a parts pending can.steady can.ready serial (the_answer.Reply (the_reply.Found entries)) _ left
        (finds state id a.client serial owner asked entries e few)

    pub finds_much_own : {E : Type 0} (asked : Search) (size : ℕ) → size ≡ fresh_size state.graph asked
        → asked.max_size < fresh_size state.graph asked → (r : Result Completion E)
        → IfOk r (λ o. o ≡ Say (refusal_with SearchResultsTooBig (limit_note size asked.max_size)))
        → GivesCompletion r a parts pending (case_in state a.client id (search state asked))
    finds_much_own asked size e many r is =
        says a parts pending can.steady can.ready (refusal_with SearchResultsTooBig (limit_note size asked.max_size)) _
        (finds_not state id a.client serial owner asked size e many) r is

    pub purges_not_own : {E : Type 0} (publisher : List ℕ) → (publisher ≡ a.client → ⊥) → (r : Result Completion E)
        → IfOk r (λ o. o ≡ Say (refusal AccessDenied))
        → GivesCompletion r a parts pending (case_in state a.client id (purge state publisher))
    purges_not_own publisher other r is =
        says a parts pending can.steady can.ready (refusal AccessDenied) _
        (purges_not state id a.client serial owner publisher other) r is

    pub polls_own : (again : Bool) → LeadsToAnswer (Poll serial again) a parts pending
        (poll state a.client again (session_in state id))
    polls_own again =
        leads_plain a parts pending can.steady can.ready (Poll serial again) refl left _ (polls state id a.client serial owner again)

    -- once the change of the parts is made
    module _ (new : Parts) (after : Pending) (steady : IsSteady new.graph new.standing.items) (ready : IsSoundSoFar a new after)
        (same : HasSameSessions parts.sessions new.sessions) where
      still : IsLive serial (sessions_left a new.sessions)
      still = live_after a serial parts.sessions new.sessions same left

      pub ends_own : HasNoSubscriptions serial new after → state_now a new after ≡ take_session serial state
          → LeadsToAnswer (End serial (the_answer.Reply the_reply.Ended)) a new after (case_in state a.client id (end_session state))
      ends_own bare told =
          leads_plain a new after steady ready (End serial (the_answer.Reply the_reply.Ended)) refl (still, bare) _
          (ends state id a.client serial owner (state_now a new after) told)

      pub loses_own : HasNoSubscriptions serial new after → state_now a new after ≡ take_session serial state
          → LeadsToAnswer (End serial the_answer.Heard) a new after (lose state a.client (session_in state id))
      loses_own bare told =
          leads_plain a new after steady ready (End serial the_answer.Heard) refl (still, bare) _
          (loses state id a.client serial owner (state_now a new after) told)

      pub publishes_own : (ops : List PublishOp)
          → (let by : Authorship = record { client = a.client; serial = serial; moment = a.moment } in
          state_now a new after ≡ overflow (tell (apply state.graph by ops) (notes_of by ops) state))
          → LeadsToAnswer (Accept serial (the_answer.Reply the_reply.Published)) a new after
          (case_in state a.client id (publish state ops))
      publishes_own ops told =
          accepts a new after steady ready serial (the_answer.Reply the_reply.Published) _ still
          (publishes state id a.client serial owner ops (state_now a new after) told)

      pub purges_own : (publisher text : List ℕ) → publisher ≡ a.client → text ≡ a.client
          → state_now a new after ≡ state_taken_from (Publisher text) state
          → LeadsToAnswer (Accept serial (the_answer.Reply the_reply.Purged)) a new after
          (case_in state a.client id (purge state publisher))
      purges_own publisher text named copied told =
          accepts a new after steady ready serial (the_answer.Reply the_reply.Purged) _ still
          (purges state id a.client serial owner publisher (state_now a new after) named
          (told ∙ ap (λ (t : List ℕ). state_taken_from (Publisher t) state) copied))

    pub subscribes_own : {E : Type 0} (ops : List SubscribeOp) (r : Result Completion E) (new : Parts) (after : Pending)
        → ((s : Session) → session_with_serial serial state.sessions ≡ Some s → GivesCompletion r a new after
        (answer_subscribed state s (subscribe_ops state.graph serial ops (record { queue = s.queue; standing = state.standing }))))
        → GivesCompletion r a new after (case_in state a.client id (subscribe state ops))
    subscribes_own ops r new after leads =
        subst (λ (wanted : State × Answer). GivesCompletion r a new after wanted) (subscribes state id a.client serial owner ops)
        (leads owner.0 owner.4)

    -- its steps
    module _ (before after : ℕ) where
      pub ends_own_within : IsEndedWithin (serial ∷ []) state before after
          → IsWithinOwn a.client (session_in state id) (λ s. IsEndedWithin (s.serial ∷ []) state) before after
      ends_own_within w = ends_within state id a.client serial owner before after w

      pub publishes_own_within : (ops : List PublishOp)
          → (let by : Authorship = record { client = a.client; serial = serial; moment = a.moment } in
          IsToldWithin (apply state.graph by ops) state before after)
          → IsWithinOwn a.client (session_in state id)
          (λ s. IsToldWithin (apply state.graph (author_in state s) ops) state) before after
      publishes_own_within ops w = publishes_within state id a.client serial owner before after ops w

      pub finds_own_within : (asked : Search) → IsWithinSpan 3 state.graph asked before after
          → IsWithinOwn a.client (session_in state id) (λ s. IsWithinSpan 3 state.graph asked) before after
      finds_own_within asked w = finds_within state id a.client serial owner before after asked w

      pub subscribes_own_within : (ops : List SubscribeOp) → AreOpsWithin state.graph ops before after
          → IsWithinOwn a.client (session_in state id) (λ s. AreOpsWithin state.graph ops) before after
      subscribes_own_within ops w = subscribes_within state id a.client serial owner before after ops w

      pub purges_own_within : (publisher text : List ℕ) → publisher ≡ a.client → text ≡ a.client
          → IsTakenWithin (Publisher text) state before after
          → IsWithinOwn a.client (session_in state id)
          (λ s. IsWithinIf (is_same_text publisher s.client) (IsTakenWithin (Publisher publisher) state)) before after
      purges_own_within publisher text named copied w =
          purges_within state id a.client serial owner before after publisher named
          (subst (λ (t : List ℕ). IsTakenWithin (Publisher t) state before after) copied w)

  -- ---- no steps

  module _ (n : ℕ) where
    pub no_ends : IsWithinOwn a.client (session_in state id) (λ s. IsEndedWithin (s.serial ∷ []) state) n n
    no_ends = ends_none state a.client (session_in state id) n

    pub no_publishes : (ops : List PublishOp)
        → IsWithinOwn a.client (session_in state id) (λ s. IsToldWithin (apply state.graph (author_in state s) ops) state) n n
    no_publishes ops = publishes_none state a.client (session_in state id) n ops

    pub no_finds : (asked : Search) → IsWithinOwn a.client (session_in state id) (λ s. IsWithinSpan 3 state.graph asked) n n
    no_finds asked = finds_none state a.client (session_in state id) n asked

    pub no_subscribes : (ops : List SubscribeOp)
        → IsWithinOwn a.client (session_in state id) (λ s. AreOpsWithin state.graph ops) n n
    no_subscribes ops = subscribes_none state a.client (session_in state id) n ops

    pub no_purges : (publisher : List ℕ) → IsWithinOwn a.client (session_in state id)
        (λ s. IsWithinIf (is_same_text publisher s.client) (IsTakenWithin (Publisher publisher) state)) n n
    no_purges publisher = purges_none state a.client (session_in state id) n publisher

  -- ---- in a session that is not the client's

  pub refuses_another : {E : Type 0} (accept : State → Session → State × Answer)
      → IsOwner (sessions_left a parts.sessions) id a.client Another
      → (r : Result Completion E) → IfOk r (λ o. o ≡ Say (refusal AccessDenied))
      → GivesCompletion r a parts pending (case_in state a.client id (accept state))
  refuses_another accept o r is =
      says a parts pending can.steady can.ready (refusal AccessDenied) _
      (another_denied state id a.client (accept state) (owner_so_far a parts pending id a.client Another o)) r is

  pub refuses_nobody : {E : Type 0} (accept : State → Session → State × Answer)
      → IsOwner (sessions_left a parts.sessions) id a.client Nobody
      → (r : Result Completion E) → IfOk r (λ o. o ≡ Say (refusal InvalidSessionID))
      → GivesCompletion r a parts pending (case_in state a.client id (accept state))
  refuses_nobody accept o r is =
      says a parts pending can.steady can.ready (refusal InvalidSessionID) _
      (nobody_missing state id a.client (accept state) (owner_so_far a parts pending id a.client Nobody o)) r is

  pub another_heard : IsOwner (sessions_left a parts.sessions) id a.client Another
      → LeadsToAnswer (Say the_answer.Heard) a parts pending (lose state a.client (session_in state id))
  another_heard o =
      leads_said a parts pending can.steady can.ready the_answer.Heard _
      (another_hears state id a.client (owner_so_far a parts pending id a.client Another o))

  pub nobody_heard : IsOwner (sessions_left a parts.sessions) id a.client Nobody
      → LeadsToAnswer (Say the_answer.Heard) a parts pending (lose state a.client (session_in state id))
  nobody_heard o =
      leads_said a parts pending can.steady can.ready the_answer.Heard _
      (nobody_hears state id a.client (owner_so_far a parts pending id a.client Nobody o))

  pub another_polled : {E : Type 0} (again : Bool) → IsOwner (sessions_left a parts.sessions) id a.client Another
      → (r : Result Completion E) → IfOk r (λ o. o ≡ Say (refusal AccessDenied))
      → GivesCompletion r a parts pending (poll state a.client again (session_in state id))
  another_polled again o r is =
      says a parts pending can.steady can.ready (refusal AccessDenied) _
      (another_polls state id a.client again (owner_so_far a parts pending id a.client Another o)) r is

  pub nobody_polled : {E : Type 0} (again : Bool) → IsOwner (sessions_left a parts.sessions) id a.client Nobody
      → (r : Result Completion E) → IfOk r (λ o. o ≡ end_of_poll again)
      → GivesCompletion r a parts pending (poll state a.client again (session_in state id))
  nobody_polled again o r is =
      says a parts pending can.steady can.ready (end_answer again) _
      (nobody_polls state id a.client again (owner_so_far a parts pending id a.client Nobody o)) r
      (IfOk-weaker r (λ o. o ≡ end_of_poll again) (λ o. o ≡ Say (end_answer again)) (λ o e. e ∙ end_said again) is)
