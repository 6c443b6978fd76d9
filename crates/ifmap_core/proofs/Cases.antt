-- What each case of the step is, by whose session a request names.
-- 1. The parts of `LeadsToAnswer` that are the same for all that holds no subscription (`leads_plain`).
-- 2. A request in the client's own session, request by request (`module _ .. (o : IsOwner .. (Own serial))`).
-- 3. A request in another's session, and in nobody's.
-- 4. What is accepted.
use Rattle.std.proofs.Common.{◌≡◌, refl, sym, ◌∙◌, ap, subst, ℕ, ◌<◌, ◌≤◌, Bool, true, false, List, [], ◌∷◌, ◌++◌, Result, Ok, Err, append-nil, inl, inr, arith}
use Rattle.std.proofs.lemmas.Bool.{cases_Bool}
use Rattle.std.proofs.lemmas.Bool.Decides.{nat_tests}
use Rattle.std.specs.Result.{IfOk}
use Rattle.ifmap_subscribes.specs.ifmap_changes.Between.{Asking, IsSoundSoFar, IsSteady, sessions_left, state_now}
use Rattle.ifmap_subscribes.specs.ifmap_changes.Changes.{take_session}
use Rattle.ifmap_subscribes.specs.ifmap_changes.declared.parts.Parts.{Parts}
use Rattle.ifmap_core.proofs.SessionIn.{session_in}
use Rattle.ifmap_core.specs.declared.completions.Completion.{Completion}
use Rattle.ifmap_core.specs.declared.completions.Completion.TheVariants.{Say, Accept}
use Rattle.ifmap_core.specs.declared.owning.Owner.{Owner}
use Rattle.ifmap_core.specs.declared.owning.Owner.TheVariants.{Own, Another, Nobody}
use Rattle.ifmap_core.specs.Completions.{CanApply, IsOwner, LeadsToAnswer, after_completion, end_of_poll, starts_in, poll_found}
use Rattle.ifmap_core.proofs.Taking.{taken_is}
use Rattle.ifmap_core.proofs.Told.{owner_told}
use Rattle.ifmap_subscribes.specs.ifmap_fresh.Fresh.{fresh, fresh_size}
use Rattle.ifmap_ident.specs.declared.codes.Code.TheVariants.{AccessDenied, InvalidSessionID, SearchResultsTooBig}
use Rattle.ifmap_lemmas.specs.Options.{is_some_of}
use Rattle.ifmap_subscribes.specs.ifmap_machine.declared.events.Answer.{Answer}
use Rattle.ifmap_subscribes.specs.ifmap_machine.declared.events.Answer.TheVariants as the_answer
use Rattle.ifmap_subscribes.specs.ifmap_machine.Ending.{drop_sessions, end_some}
use Rattle.ifmap_subscribes.specs.ifmap_machine.State.{State}
use Rattle.ifmap_subscribes.specs.ifmap_machine.Step.{author_in, answer_subscribed, end_session, in_session, lose, poll, publish, purge, refusal, refusal_with, renew, renew_session, search, subscribe}
use Rattle.ifmap_subscribes.specs.ifmap_machine.Subscribing.{subscribe_ops}
use Rattle.ifmap_subscribes.specs.ifmap_machine.Telling.{is_too_big, limit_note, overflow, tell}
use Rattle.ifmap_subscribes.specs.ifmap_publish.Apply.{Authorship, apply}
use Rattle.ifmap_subscribes.specs.ifmap_publish.Notes.{notes_of}
use Rattle.ifmap_subscribes.specs.ifmap_publish.declared.who.Who.TheVariants.{Publisher}
use Rattle.ifmap_subscribes.specs.ifmap_publish.Retract.{retract}
use Rattle.ifmap_subscribes.specs.ifmap_replies.declared.replies.Reply.TheVariants as the_reply
use Rattle.ifmap_subscribes.specs.ifmap_requests.declared.publish_ops.PublishOp.{PublishOp}
use Rattle.ifmap_subscribes.specs.ifmap_requests.declared.requests.SubscribeOp.{SubscribeOp}
use Rattle.ifmap_session.specs.ifmap_search.declared.results.Entry.{Entry}
use Rattle.ifmap_session.specs.ifmap_search.declared.searches.Search.{Search}
use Rattle.ifmap_session.specs.Sessions.{IsLive, Session, SessionTable, is_same_text, session_with_id, session_with_serial}
use Rattle.ifmap_session.specs.laws.TextLaws.{text_is, text_same}
use Rattle.ifmap_subscribes.specs.ifmap_tellings.declared.tellings.Pending.{Pending}
use Rattle.ifmap_subscribes.specs.ifmap_tellings.Tellings.{HasSameSessions}

-- ---- what holds no subscription

module _ (a : Asking) (parts : Parts) (pending : Pending) where
  pub leads_plain : IsSteady parts.graph parts.standing.items → IsSoundSoFar a parts pending → (completion : Completion)
      → starts_in completion ≡ []
      → CanApply completion a parts pending → (wanted : State × Answer) → after_completion completion (state_now a parts pending) ≡ wanted
      → LeadsToAnswer completion a parts pending wanted
  leads_plain steady ready completion none can wanted e = record {
    can = record {
      steady = subst (λ more. IsSteady parts.graph (parts.standing.items ++ more)) (sym none)
          (subst (IsSteady parts.graph) (sym (append-nil parts.standing.items)) steady);
      ready = ready;
      can = can;
    };
    leads = e;
  }

  pub leads_said : IsSteady parts.graph parts.standing.items → IsSoundSoFar a parts pending → (answer : Answer) (wanted : State × Answer)
      → ◌≡◌ {A = State × Answer} (state_now a parts pending, answer) wanted → LeadsToAnswer (Say answer) a parts pending wanted
  leads_said steady ready answer wanted e = leads_plain steady ready (Say answer) refl tt wanted e

  -- a refusal, or another answer that says all
  pub says : {E : Type 0} → IsSteady parts.graph parts.standing.items → IsSoundSoFar a parts pending
      → (answer : Answer) (wanted : State × Answer)
      → ◌≡◌ {A = State × Answer} (state_now a parts pending, answer) wanted → (r : Result Completion E) → IfOk r (λ o. o ≡ Say answer)
      → IfOk r (λ o. LeadsToAnswer o a parts pending wanted)
  says steady ready answer wanted e (Ok completion) is =
      subst (λ (o : Completion). LeadsToAnswer o a parts pending wanted) (sym is) (leads_said steady ready answer wanted e)
  says steady ready answer wanted e (Err error) is = tt

  pub owner_so_far : (id client : List ℕ) (o : Owner) → IsOwner (sessions_left a parts.sessions) id client o
      → IsOwner (state_now a parts pending).sessions id client o
  owner_so_far id client o is = owner_told pending.tellings (sessions_left a parts.sessions) id client o is

-- a session that is the client's is left
pub own_left : (live : List Session) (id client : List ℕ) (serial : ℕ) → IsOwner live id client (Own serial) → IsLive serial live
own_left live id client serial o = is_some_of (session_with_serial serial live) o.0 o.4

pub live_after : (a : Asking) (n : ℕ) (old new : SessionTable) → HasSameSessions old new → IsLive n (sessions_left a old)
    → IsLive n (sessions_left a new)
live_after a n old new same l = subst (λ (live : List Session). IsLive n (sessions_left a (record old { live = live }))) (sym same.live) l

-- ---- requests in the client's own session

module _ (state : State) (id client : List ℕ) (serial : ℕ) (o : IsOwner state.sessions id client (Own serial)) where
  pub own_client : o.0.client ≡ client
  own_client = text_is o.0.client client o.2

  renewed_as : (after : State) (answer : Answer) → ◌≡◌ {A = State × Answer} (renew serial after, answer) (renew o.0.serial after, answer)
  renewed_as after answer = ap (λ (k : ℕ). (renew k after, answer)) (sym o.3)

  own_case : (accept : Session → State × Answer) (it : State × Answer) → it ≡ accept o.0
      → it ≡ in_session state client (session_in state id) accept
  own_case accept it e = rw (o.1, o.2) e

  pub renews : ◌≡◌ {A = State × Answer} (renew serial state, the_answer.Reply the_reply.Renewed)
      (in_session state client (session_in state id) (renew_session state))
  renews = own_case (renew_session state) _ (renewed_as state (the_answer.Reply the_reply.Renewed))

  pub author_is : author_in state o.0 ≡ record { client = client; serial = serial; moment = state.moment }
  author_is = ap (λ (t : List ℕ). record { client = t; serial = o.0.serial; moment = state.moment }) own_client
      ∙ ap (λ (n : ℕ). record { client = client; serial = n; moment = state.moment }) o.3

  pub publishes : (ops : List PublishOp) (after : State)
      → (let by : Authorship = record { client = client; serial = serial; moment = state.moment } in
      after ≡ overflow (tell (apply state.graph by ops) (notes_of by ops) state))
      → ◌≡◌ {A = State × Answer} (renew serial after, the_answer.Reply the_reply.Published)
      (in_session state client (session_in state id) (publish state ops))
  publishes ops after e =
      own_case (publish state ops) _ (renewed_as after (the_answer.Reply the_reply.Published)
      ∙ ap (λ (s : State). (renew o.0.serial s, the_answer.Reply the_reply.Published)) (e
      ∙ ap (λ (by : Authorship). overflow (tell (apply state.graph by ops) (notes_of by ops) state)) (sym author_is)))

  pub ends : (after : State) → after ≡ take_session serial state
      → ◌≡◌ {A = State × Answer} (drop_sessions (serial ∷ []) after, the_answer.Reply the_reply.Ended)
      (in_session state client (session_in state id) (end_session state))
  ends after e = own_case (end_session state) _ (ap (λ (s : State). (s, the_answer.Reply the_reply.Ended)) (end_is after e))
    where
      end_is : (after : State) → after ≡ take_session serial state → drop_sessions (serial ∷ []) after ≡ end_some (o.0.serial ∷ []) state
      end_is after e = ap (drop_sessions (serial ∷ [])) e ∙ taken_is serial state ∙ ap (λ (n : ℕ). end_some (n ∷ []) state) (sym o.3)

  pub loses : (after : State) → after ≡ take_session serial state
      → ◌≡◌ {A = State × Answer} (drop_sessions (serial ∷ []) after, the_answer.Heard) (lose state client (session_in state id))
  loses after e =
      rw (o.1, o.2) (ap (λ (s : State). (s, the_answer.Heard))
      (ap (drop_sessions (serial ∷ [])) e ∙ taken_is serial state ∙ ap (λ (n : ℕ). end_some (n ∷ []) state) (sym o.3)))

  pub purges : (publisher : List ℕ) (after : State) → publisher ≡ client
      → after ≡ overflow (tell (retract (Publisher client) state.graph) [] state)
      → ◌≡◌ {A = State × Answer} (renew serial after, the_answer.Reply the_reply.Purged)
      (in_session state client (session_in state id) (purge state publisher))
  purges publisher after own e =
      let same : is_same_text publisher o.0.client ≡ true = text_same publisher o.0.client (own ∙ sym own_client) in
      own_case (purge state publisher) _ (rw same (renewed_as after (the_answer.Reply the_reply.Purged)
      ∙ ap (λ (s : State). (renew o.0.serial s, the_answer.Reply the_reply.Purged)) (e
      ∙ ap (λ (t : List ℕ). overflow (tell (retract (Publisher t) state.graph) [] state)) (sym own))))

  pub purges_not : (publisher : List ℕ) → (publisher ≡ client → ⊥)
      → ◌≡◌ {A = State × Answer} (state, refusal AccessDenied) (in_session state client (session_in state id) (purge state publisher))
  purges_not publisher other =
      let differ : is_same_text publisher o.0.client ≡ false = elim (cases_Bool (is_same_text publisher o.0.client)) [
        | inl hit ↦ absurd (other (text_is publisher o.0.client hit ∙ own_client))
        | inr miss ↦ miss
      ] in
      own_case (purge state publisher) _ (rw differ refl)

  pub finds : (asked : Search) (entries : List Entry) → entries ≡ fresh state.graph asked → fresh_size state.graph asked ≤ asked.max_size
      → ◌≡◌ {A = State × Answer} (renew serial state, the_answer.Reply (the_reply.Found entries))
      (in_session state client (session_in state id) (search state asked))
  finds asked entries e few =
      let fits : is_too_big state.graph asked ≡ false = grind (arith, nat_tests, few) in
      own_case (search state asked) _ (rw fits (renewed_as state (the_answer.Reply (the_reply.Found entries))
      ∙ ap (λ (es : List Entry). (renew o.0.serial state, the_answer.Reply (the_reply.Found es))) e))

  pub finds_not : (asked : Search) (size : ℕ) → size ≡ fresh_size state.graph asked → asked.max_size < fresh_size state.graph asked
      → ◌≡◌ {A = State × Answer} (state, refusal_with SearchResultsTooBig (limit_note size asked.max_size))
      (in_session state client (session_in state id) (search state asked))
  finds_not asked size e many =
      let large : is_too_big state.graph asked ≡ true = grind (arith, nat_tests, many) in
      own_case (search state asked) _ (rw (large, e) refl)

  pub polls : (again : Bool) → poll_found state again (session_with_serial serial state.sessions)
      ≡ poll state client again (session_in state id)
  polls true = rw (o.1, o.2, o.4) refl
  polls false = rw (o.1, o.2, o.4) refl

  -- its names
  pub subscribes : (ops : List SubscribeOp)
      → answer_subscribed state o.0 (subscribe_ops state.graph serial ops (record { queue = o.0.queue; standing = state.standing }))
      ≡ in_session state client (session_in state id) (subscribe state ops)
  subscribes ops =
      own_case (subscribe state ops) _ (ap (λ (n : ℕ). answer_subscribed state o.0
      (subscribe_ops state.graph n ops (record { queue = o.0.queue; standing = state.standing }))) (sym o.3))

-- ---- in a session that is not the client's

-- what nobody's poll is told
abbrev pub end_answer : Bool → Answer
end_answer true = the_answer.Reply the_reply.Ended
end_answer false = refusal InvalidSessionID

pub end_said : (again : Bool) → end_of_poll again ≡ Say (end_answer again)
end_said true = refl
end_said false = refl

module _ (state : State) (id client : List ℕ) where
  pub another_denied : (accept : Session → State × Answer) → IsOwner state.sessions id client Another
      → ◌≡◌ {A = State × Answer} (state, refusal AccessDenied) (in_session state client (session_with_id id state.sessions) accept)
  another_denied accept o = rw (o.1, o.2) refl

  pub nobody_missing : (accept : Session → State × Answer) → IsOwner state.sessions id client Nobody
      → ◌≡◌ {A = State × Answer} (state, refusal InvalidSessionID) (in_session state client (session_with_id id state.sessions) accept)
  nobody_missing accept o = rw o refl

  pub another_polls : (again : Bool) → IsOwner state.sessions id client Another
      → ◌≡◌ {A = State × Answer} (state, refusal AccessDenied) (poll state client again (session_with_id id state.sessions))
  another_polls true o = rw (o.1, o.2) refl
  another_polls false o = rw (o.1, o.2) refl

  pub nobody_polls : (again : Bool) → IsOwner state.sessions id client Nobody
      → ◌≡◌ {A = State × Answer} (state, end_answer again) (poll state client again (session_with_id id state.sessions))
  nobody_polls true o = rw o refl
  nobody_polls false o = rw o refl

  pub another_hears : IsOwner state.sessions id client Another
      → ◌≡◌ {A = State × Answer} (state, the_answer.Heard) (lose state client (session_with_id id state.sessions))
  another_hears o = rw (o.1, o.2) refl

  pub nobody_hears : IsOwner state.sessions id client Nobody
      → ◌≡◌ {A = State × Answer} (state, the_answer.Heard) (lose state client (session_with_id id state.sessions))
  nobody_hears o = rw o refl

-- ---- what is accepted

module _ (a : Asking) (parts : Parts) (pending : Pending) (steady : IsSteady parts.graph parts.standing.items)
    (ready : IsSoundSoFar a parts pending) where
  -- accepted in a session that is left
  pub accepts : (serial : ℕ) (answer : Answer) (wanted : State × Answer) → IsLive serial (sessions_left a parts.sessions)
      → ◌≡◌ {A = State × Answer} (renew serial (state_now a parts pending), answer) wanted
      → LeadsToAnswer (Accept serial answer) a parts pending wanted
  accepts serial answer wanted live e = leads_plain a parts pending steady ready (Accept serial answer) refl live wanted e
