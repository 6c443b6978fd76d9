-- When the answer is Held or Heard, and when a poll is told of its session's end.
-- Plan: (1) an answer that is no reply is given by no request but a poll; (2) a poll, by what is queued for it: `Held` where
-- nothing is, never `Heard`, and the end of its session only where that waits; (3) each kind of request in turn gives a
-- reply; (4) a poll asked again is judged by its session; (5) the same of whole events, of which a lost answer alone is
-- `Heard`.
use Rattle.std.proofs.Common.{◌≡◌, ◌↔◌, refl, sym, ◌∙◌, ap, subst, ℕ, Bool, true, false, List, [], ◌∷◌, Option, None, Some, inl, inr}
use Rattle.std.proofs.lemmas.Bool.{cases_Bool}
use Rattle.ifmap_core.proofs.SessionIn.{session_in}
use Rattle.ifmap_core.specs.Causes.{AsksPoll, IsLoss, PollsNoSession, PollsNothing}
use Rattle.ifmap_core.specs.EmptyPolls.{HasNothing}
use Rattle.ifmap_ident.specs.declared.codes.Code.{Code}
use Rattle.ifmap_subscribes.specs.ifmap_machine.declared.events.Answer.{Answer}
use Rattle.ifmap_subscribes.specs.ifmap_machine.declared.events.Answer.TheVariants.{Reply, Held, Heard}
use Rattle.ifmap_subscribes.specs.ifmap_machine.declared.events.Ask.{Ask}
use Rattle.ifmap_subscribes.specs.ifmap_machine.declared.events.Ask.TheVariants.{Request, Lost}
use Rattle.ifmap_subscribes.specs.ifmap_machine.Events.{Event}
use Rattle.ifmap_subscribes.specs.ifmap_machine.State.{State}
use Rattle.ifmap_subscribes.specs.ifmap_machine.Step.{answer_subscribed, end_session, in_session, is_full, lose, new_session, poll, poll_in, poll_queue, publish, purge, renew_session, search, step_ask, subscribe}
use Rattle.ifmap_subscribes.specs.ifmap_machine.Subscribing.{Told, subscribe_ops}
use Rattle.ifmap_subscribes.specs.ifmap_machine.Telling.{is_too_big}
use Rattle.ifmap_subscribes.specs.ifmap_replies.declared.replies.Reply.{Reply as AnyReply}
use Rattle.ifmap_subscribes.specs.ifmap_replies.declared.replies.Reply.TheVariants.{Error, Ended}
use Rattle.ifmap_subscribes.specs.ifmap_requests.declared.publish_ops.PublishOp.{PublishOp}
use Rattle.ifmap_subscribes.specs.ifmap_requests.declared.requests.Request.TheVariants as the_request
use Rattle.ifmap_subscribes.specs.ifmap_requests.declared.requests.SubscribeOp.{SubscribeOp}
use Rattle.ifmap_session.specs.ifmap_search.declared.results.PollItem.{PollItem}
use Rattle.ifmap_session.specs.ifmap_search.declared.searches.Search.{Search}
use Rattle.ifmap_session.specs.Sessions.{Session, is_same_text}
use Rattle.ifmap_session.specs.laws.TextLaws.{text_is, text_same}

-- an answer that is no reply is given by no request but a poll
module _ (state : State) (client : List ℕ) (wanted : Answer) (f : (r : AnyReply) → Reply r ≡ wanted → ⊥) where
  in_none : (o : Option Session) (accept : Session → State × Answer) → ((s : Session) → (accept s).1 ≡ wanted → ⊥)
      → (in_session state client o accept).1 ≡ wanted → ⊥
  in_none None accept g h = f _ h
  in_none (Some s) accept g h =
      elim (cases_Bool (is_same_text s.client client)) [ inl hit ↦ g s (rw hit at h) | inr miss ↦ f _ (rw miss at h) ]

  new_not : (random : ℕ) (limit : Option ℕ) → (new_session state client random limit).1 ≡ wanted → ⊥
  new_not random limit h =
      elim (cases_Bool (is_full state client)) [ inl hit ↦ f _ (rw hit at h) | inr miss ↦ f _ (rw miss at h) ]

  search_not : (asked : Search) (s : Session) → (search state asked s).1 ≡ wanted → ⊥
  search_not asked s h =
      elim (cases_Bool (is_too_big state.graph asked)) [ inl hit ↦ f _ (rw hit at h) | inr miss ↦ f _ (rw miss at h) ]

  purge_not : (publisher : List ℕ) (s : Session) → (purge state publisher s).1 ≡ wanted → ⊥
  purge_not publisher s h =
      elim (cases_Bool (is_same_text publisher s.client)) [ inl hit ↦ f _ (rw hit at h) | inr miss ↦ f _ (rw miss at h) ]

  subscribed_not : (s : Session) (o : Option Told) → (answer_subscribed state s o).1 ≡ wanted → ⊥
  subscribed_not s None h = f _ h
  subscribed_not s (Some t) h = f _ h

  subscribe_not : (ops : List SubscribeOp) (s : Session) → (subscribe state ops s).1 ≡ wanted → ⊥
  subscribe_not ops s h =
      subscribed_not s (subscribe_ops state.graph s.serial ops (record { queue = s.queue; standing = state.standing })) h

held_no_reply : (r : AnyReply) → Reply r ≡ Held → ⊥
held_no_reply r e = cc

heard_no_reply : (r : AnyReply) → Reply r ≡ Heard → ⊥
heard_no_reply r e = cc

lost_heard : (state : State) (client : List ℕ) (o : Option Session) → (lose state client o).1 ≡ Heard
lost_heard state client None = refl
lost_heard state client (Some s) = refl

-- a poll, by what is queued
queue_held : (state : State) (again : Bool) (s : Session) (queue : List PollItem) → (poll_queue state again s queue).1 ≡ Held → queue ≡ []
queue_held state again s [] h = refl
queue_held state again s (item ∷ items) h = cc

queue_not_heard : (state : State) (again : Bool) (s : Session) (queue : List PollItem) → (poll_queue state again s queue).1 ≡ Heard → ⊥
queue_not_heard state again s [] h = cc
queue_not_heard state again s (item ∷ items) h = cc

queue_not_ended : (state : State) (again : Bool) (s : Session) (queue : List PollItem)
    → (poll_queue state again s queue).1 ≡ Reply Ended → ⊥
queue_not_ended state again s [] h = cc
queue_not_ended state again s (item ∷ items) h = cc

module _ (state : State) (client : List ℕ) where
  -- the session found is the client's, and has nothing to tell
  abbrev IsFoundEmpty : Option Session → Type 0
  IsFoundEmpty o = (s : Session) × (o ≡ Some s) × (s.client ≡ client) × (s.queue ≡ [])

  held_in : (again : Bool) (o : Option Session) → ((in_session state client o (poll_in state again)).1 ≡ Held) ↔ IsFoundEmpty o
  held_in again None = ((λ h. cc), (λ h. let bad = h.1 in cc))
  held_in again (Some s) = (
    (λ h. elim (cases_Bool (is_same_text s.client client)) [
      | inl hit ↦ (s, refl, text_is s.client client hit, queue_held state again s s.queue (rw hit at h))
      | inr miss ↦ absurd (held_no_reply _ (rw miss at h))
    ]),
    (λ h.
        let same : h.0 ≡ s = let e = h.1 in cc in
        let own : is_same_text s.client client ≡ true = text_same s.client client (ap (λ (t : Session). t.client) (sym same) ∙ h.2) in
        let empty : s.queue ≡ [] = ap (λ (t : Session). t.queue) (sym same) ∙ h.3 in
        rw (own, empty) refl),
  )

  poll_held : (again : Bool) (o : Option Session) → ((poll state client again o).1 ≡ Held) ↔ IsFoundEmpty o
  poll_held true None = ((λ h. cc), (λ h. let bad = h.1 in cc))
  poll_held true (Some s) = held_in true (Some s)
  poll_held false o = held_in false o

  poll_not_heard : (again : Bool) (o : Option Session) → (poll state client again o).1 ≡ Heard → ⊥
  poll_not_heard true None h = cc
  poll_not_heard true (Some s) h =
      in_none state client Heard heard_no_reply (Some s) (poll_in state true) (λ t k. queue_not_heard state true t t.queue k) h
  poll_not_heard false o h =
      in_none state client Heard heard_no_reply o (poll_in state false) (λ t k. queue_not_heard state false t t.queue k) h

  ended_not_in : (again : Bool) (o : Option Session) → (in_session state client o (poll_in state again)).1 ≡ Reply Ended → ⊥
  ended_not_in again None h = cc
  ended_not_in again (Some s) h =
      elim (cases_Bool (is_same_text s.client client)) [
        | inl hit ↦ queue_not_ended state again s s.queue (rw hit at h)
        | inr miss ↦ no_error _ _ (rw miss at h)
      ]
    where
      no_error : (code : Code) (note : List ℕ) → Reply (Error code note) ≡ Reply Ended → ⊥
      no_error code note e = cc

  poll_ended : (again : Bool) (o : Option Session) → ((poll state client again o).1 ≡ Reply Ended) ↔ ((again ≡ true) × (o ≡ None))
  poll_ended true None = ((λ h. (refl, refl)), (λ h. refl))
  poll_ended true (Some s) = ((λ h. absurd (ended_not_in true (Some s) h)), (λ h. let bad = h.1 in cc))
  poll_ended false o = ((λ h. absurd (ended_not_in false o h)), (λ h. let bad = h.0 in cc))

poll_id : (one other : List ℕ) → Request (the_request.Poll one) ≡ Request (the_request.Poll other) → one ≡ other
poll_id one other e = cc

module _ (state : State) (event : Event) where
  abbrev client : List ℕ
  client = event.client

  neither : (P Q : Type 0) → (P → ⊥) → (Q → ⊥) → P ↔ Q
  neither P Q f g = ((λ h. absurd (f h)), (λ h. absurd (g h)))

  -- no request but a poll is answered so
  module _ (wanted : Answer) (f : (r : AnyReply) → Reply r ≡ wanted → ⊥) where
    renew_other : (id : List ℕ) → (step_ask state event (Request (the_request.RenewSession id))).1 ≡ wanted → ⊥
    renew_other id = in_none state client wanted f (session_in state id) (renew_session state) (λ s k. f _ k)

    end_other : (id : List ℕ) → (step_ask state event (Request (the_request.EndSession id))).1 ≡ wanted → ⊥
    end_other id = in_none state client wanted f (session_in state id) (end_session state) (λ s k. f _ k)

    publish_other : (id : List ℕ) (ops : List PublishOp) → (step_ask state event (Request (the_request.Publish id ops))).1 ≡ wanted → ⊥
    publish_other id ops = in_none state client wanted f (session_in state id) (publish state ops) (λ s k. f _ k)

    search_other : (id : List ℕ) (asked : Search) → (step_ask state event (Request (the_request.Search id asked))).1 ≡ wanted → ⊥
    search_other id asked = in_none state client wanted f (session_in state id) (search state asked)
        (search_not state client wanted f asked)

    subscribe_other : (id : List ℕ) (ops : List SubscribeOp)
        → (step_ask state event (Request (the_request.Subscribe id ops))).1 ≡ wanted → ⊥
    subscribe_other id ops = in_none state client wanted f (session_in state id) (subscribe state ops)
        (subscribe_not state client wanted f ops)

    purge_other : (id publisher : List ℕ)
        → (step_ask state event (Request (the_request.PurgePublisher id publisher))).1 ≡ wanted → ⊥
    purge_other id publisher = in_none state client wanted f (session_in state id) (purge state publisher)
        (purge_not state client wanted f publisher)

  pub held_on_poll : (ask : Ask) → ((step_ask state event ask).1 ≡ Held) ↔ PollsNothing state client ask
  held_on_poll (Lost id) =
      neither _ _ (λ h. let bad : Heard ≡ Held = sym (lost_heard state client (session_in state id)) ∙ h in cc) (λ h. let bad = h.1 in cc)
  held_on_poll (Request (the_request.NewSession limit)) =
      neither _ _ (new_not state client Held held_no_reply event.random limit) (λ h. let bad = h.1 in cc)
  held_on_poll (Request (the_request.RenewSession id)) = neither _ _ (renew_other Held held_no_reply id) (λ h. let bad = h.1 in cc)
  held_on_poll (Request (the_request.EndSession id)) = neither _ _ (end_other Held held_no_reply id) (λ h. let bad = h.1 in cc)
  held_on_poll (Request (the_request.Publish id ops)) = neither _ _ (publish_other Held held_no_reply id ops) (λ h. let bad = h.1 in cc)
  held_on_poll (Request (the_request.Search id asked)) = neither _ _ (search_other Held held_no_reply id asked) (λ h. let bad = h.1 in cc)
  held_on_poll (Request (the_request.Subscribe id ops)) = neither _ _ (subscribe_other Held held_no_reply id ops) (λ h. let bad = h.1 in cc)
  held_on_poll (Request (the_request.Poll id)) = (
    (λ h. (id, refl, (poll_held state client event.again (session_in state id)).0 h)),
    (λ h. (poll_held state client event.again (session_in state id)).1
        (subst (λ (i : List ℕ). HasNothing state.sessions i client) (sym (poll_id id h.0 h.1)) h.2)),
  )
  held_on_poll (Request (the_request.PurgePublisher id publisher)) =
      neither _ _ (purge_other Held held_no_reply id publisher) (λ h. let bad = h.1 in cc)

  pub heard_where_lost : (ask : Ask) → ((step_ask state event ask).1 ≡ Heard) ↔ IsLoss ask
  heard_where_lost (Lost id) = ((λ h. (id, refl)), (λ h. lost_heard state client (session_in state id)))
  heard_where_lost (Request (the_request.NewSession limit)) =
      neither _ _ (new_not state client Heard heard_no_reply event.random limit) (λ h. let bad = h.1 in cc)
  heard_where_lost (Request (the_request.RenewSession id)) = neither _ _ (renew_other Heard heard_no_reply id) (λ h. let bad = h.1 in cc)
  heard_where_lost (Request (the_request.EndSession id)) = neither _ _ (end_other Heard heard_no_reply id) (λ h. let bad = h.1 in cc)
  heard_where_lost (Request (the_request.Publish id ops)) = neither _ _ (publish_other Heard heard_no_reply id ops)
      (λ h. let bad = h.1 in cc)
  heard_where_lost (Request (the_request.Search id asked)) = neither _ _ (search_other Heard heard_no_reply id asked)
      (λ h. let bad = h.1 in cc)
  heard_where_lost (Request (the_request.Subscribe id ops)) =
      neither _ _ (subscribe_other Heard heard_no_reply id ops) (λ h. let bad = h.1 in cc)
  heard_where_lost (Request (the_request.Poll id)) =
      neither _ _ (poll_not_heard state client event.again (session_in state id)) (λ h. let bad = h.1 in cc)
  heard_where_lost (Request (the_request.PurgePublisher id publisher)) =
      neither _ _ (purge_other Heard heard_no_reply id publisher) (λ h. let bad = h.1 in cc)

  pub told_end : (ask : Ask) → AsksPoll ask → ((step_ask state event ask).1 ≡ Reply Ended) ↔ PollsNoSession state event.again ask
  told_end ask polls =
      subst (λ (a : Ask). ((step_ask state event a).1 ≡ Reply Ended) ↔ PollsNoSession state event.again a) (sym polls.1) (polled polls.0)
    where
      polled : (id : List ℕ) → ((poll state client event.again (session_in state id)).1 ≡ Reply Ended)
          ↔ PollsNoSession state event.again (Request (the_request.Poll id))
      polled id = (
        (λ h. let e = (poll_ended state client event.again (session_in state id)).0 h in (id, refl, e.0, e.1)),
        (λ h. (poll_ended state client event.again (session_in state id)).1
            (h.2, subst (λ (i : List ℕ). session_in state i ≡ None) (sym (poll_id id h.0 h.1)) h.3)),
      )

-- what holds of the answer of one holds of that of another that is the same
pub of_answer : (P : Answer → Type 0) (given wanted : State × Answer) → given ≡ wanted → P wanted.1 → P given.1
of_answer P given wanted is p = subst (λ (x : State × Answer). P x.1) (sym is) p
