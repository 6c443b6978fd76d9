-- When the step of the machine refuses, and with which code.
-- 1. What is done within a session refuses for its own cause alone, if at all: a search, a purge, a
--    poll, a subscribe (`search_refuses` to `subscribe_leaves`).
-- 2. A request in a session refuses for want of it (`missing`), as another's (`denies_another`), or as what
--    is accepted does (`other`), and leaves the state (`leaves`); a poll likewise (`poll_missing`).
-- 3. The causes of a search (`too_much`), of a subscribe (`no_room`) and of a new session
--    (`none_left`).
-- 4. Code by code, over all asks, the refusal is tied both ways to its cause: `invalid_session`,
--    `access_denied`, `system_error`, `too_big`.
-- 5. A refusal changes nothing (`refusal_leaves`).
use Rattle.std.proofs.Common.{◌≡◌, ◌≢◌, ◌↔◌, refl, sym, ◌∙◌, ap, subst, ℕ, ◌-◌, ◌^◌, ◌<◌, ◌≤◌, ◌==◌, ◌&&◌, Bool, true, false, List, [], ◌∷◌, length, Option, None, Some, inl, inr, ◌⊎◌, nat_le, is_none, arith}
use Rattle.std.proofs.lemmas.Bool.{and_from, and_parts, both_ways, cases_Bool, eq-eqb, eqb-true, or_cases, or_left, or_right}
use Rattle.std.proofs.lemmas.Bool.Decides.{nat_tests}
use Rattle.ifmap_core.proofs.SessionIn.{session_in}
use Rattle.ifmap_core.specs.Causes.{AsksForNoneLeft, FindsTooMuch, HasNoRoomForName, IsRefusal, MeetsNoRoom, NamesAnothersSession, NamesNoSession, PurgesAnother}
use Rattle.ifmap_core.proofs.Rooms.{no_room_where}
use Rattle.ifmap_subscribes.specs.ifmap_fresh.Fresh.{fresh_size}
use Rattle.ifmap_ident.specs.declared.codes.Code.{Code}
use Rattle.ifmap_ident.specs.declared.codes.Code.TheVariants.{AccessDenied, InvalidSessionID, SearchResultsTooBig, SystemError}
use Rattle.ifmap_subscribes.specs.ifmap_machine.declared.events.Answer.{Answer}
use Rattle.ifmap_subscribes.specs.ifmap_machine.declared.events.Ask.{Ask}
use Rattle.ifmap_subscribes.specs.ifmap_machine.declared.events.Ask.TheVariants.{Request, Lost}
use Rattle.ifmap_subscribes.specs.ifmap_machine.Events.{Event}
use Rattle.ifmap_subscribes.specs.ifmap_machine.State.{State}
use Rattle.ifmap_subscribes.specs.ifmap_machine.Step.{answer_subscribed, end_session, in_session, is_full, lose, new_session, poll, poll_in, poll_queue, publish, purge, renew_session, search, step_ask, subscribe}
use Rattle.ifmap_subscribes.specs.ifmap_machine.Subscribing.{Told, subscribe_ops}
use Rattle.ifmap_subscribes.specs.ifmap_machine.Telling.{is_too_big}
use Rattle.ifmap_subscribes.specs.ifmap_requests.declared.requests.SubscribeOp.{SubscribeOp}
use Rattle.ifmap_subscribes.specs.ifmap_requests.declared.requests.Request.TheVariants as the_request
use Rattle.ifmap_session.specs.ifmap_search.declared.results.PollItem.{PollItem}
use Rattle.ifmap_session.specs.ifmap_search.declared.searches.Search.{Search}
use Rattle.ifmap_session.specs.Sessions.{Session, is_same_text, most_sessions, session_of_client}
use Rattle.ifmap_session.specs.laws.TextLaws.{text_is, text_same}

-- a search refuses for size alone
search_refuses : (state : State) (asked : Search) (s : Session) (code : Code) → IsRefusal code (search state asked s).1
    → (SearchResultsTooBig ≡ code) × (asked.max_size < fresh_size state.graph asked)
search_refuses state asked s code h =
    elim (cases_Bool (is_too_big state.graph asked)) [
      | inl hit ↦ (rw hit at h, grind (arith, nat_tests, hit))
      | inr miss ↦ absurd (rw miss at h)
    ]

search_refused : (state : State) (asked : Search) (s : Session) → asked.max_size < fresh_size state.graph asked
    → IsRefusal SearchResultsTooBig (search state asked s).1
search_refused state asked s large =
    let hit : is_too_big state.graph asked ≡ true = grind (arith, nat_tests, large) in rw hit refl

search_leaves : (state : State) (asked : Search) (s : Session) (code : Code) → IsRefusal code (search state asked s).1
    → (search state asked s).0 ≡ state
search_leaves state asked s code h =
    elim (cases_Bool (is_too_big state.graph asked)) [ inl hit ↦ rw hit refl | inr miss ↦ absurd (rw miss at h) ]

-- a purge refuses where it is of another
purge_refuses : (state : State) (publisher : List ℕ) (s : Session) (code : Code) → IsRefusal code (purge state publisher s).1
    → (AccessDenied ≡ code) × (is_same_text publisher s.client ≡ false)
purge_refuses state publisher s code h =
    elim (cases_Bool (is_same_text publisher s.client)) [ inl hit ↦ absurd (rw hit at h) | inr miss ↦ (rw miss at h, miss) ]

purge_leaves : (state : State) (publisher : List ℕ) (s : Session) (code : Code) → IsRefusal code (purge state publisher s).1
    → (purge state publisher s).0 ≡ state
purge_leaves state publisher s code h = rw ((purge_refuses state publisher s code h).1) refl

-- a poll that is accepted never does
queue_never : (state : State) (again : Bool) (s : Session) (queue : List PollItem) (code : Code)
    → IsRefusal code (poll_queue state again s queue).1 → ⊥
queue_never state again s [] code h = h
queue_never state again s (item ∷ items) code h = h

poll_never : (state : State) (again : Bool) (s : Session) (code : Code) → IsRefusal code (poll_in state again s).1 → ⊥
poll_never state again s code h = queue_never state again s s.queue code h

lost_never : (state : State) (client : List ℕ) (o : Option Session) (code : Code) → IsRefusal code (lose state client o).1 → ⊥
lost_never state client None code h = h
lost_never state client (Some s) code h = h

-- a subscribe refuses where there is no room for a name
subscribe_refuses : (state : State) (s : Session) (o : Option Told) (code : Code) → IsRefusal code (answer_subscribed state s o).1
    → (SystemError ≡ code) × (o ≡ None)
subscribe_refuses state s None code h = (h, refl)
subscribe_refuses state s (Some t) code h = absurd h

subscribe_refused : (state : State) (s : Session) (o : Option Told) → o ≡ None → IsRefusal SystemError (answer_subscribed state s o).1
subscribe_refused state s o none = rw none refl

subscribe_leaves : (state : State) (s : Session) (o : Option Told) (code : Code) → IsRefusal code (answer_subscribed state s o).1
    → (answer_subscribed state s o).0 ≡ state
subscribe_leaves state s None code h = refl
subscribe_leaves state s (Some t) code h = absurd h

-- a session's queue and all subscriptions, and what a subscribe makes of them
abbrev told_in : State → Session → Told
told_in state s = record { queue = s.queue; standing = state.standing }

abbrev told_by_ops : State → List SubscribeOp → Session → Option Told
told_by_ops state ops s = subscribe_ops state.graph s.serial ops (told_in state s)

-- the session's operations come to a name for which there is no room
abbrev LacksRoom : State → List SubscribeOp → Session → Type 0
LacksRoom state ops s = MeetsNoRoom state.graph s.serial ops (told_in state s)

-- a request in a session, where what is accepted is not refused with the code in question
module _ (state : State) (client : List ℕ) (accept : Session → State × Answer) where
  missing : (o : Option Session) → ((s : Session) → IsRefusal InvalidSessionID (accept s).1 → ⊥)
      → IsRefusal InvalidSessionID (in_session state client o accept).1 ↔ ((Some o ≡ Some None) × (false ≡ false))
  missing None f = ((λ h. (refl, refl)), (λ e. refl))
  missing (Some s) f = (
    (λ h. elim (cases_Bool (is_same_text s.client client)) [
      | inl hit ↦ absurd (f s (rw hit at h))
      | inr miss ↦ let bad : AccessDenied
          ≡ InvalidSessionID = rw miss at h in cc
    ]),
    (λ e. let bad = e.0 in cc),
  )

  denied_here : (o : Option Session) (Here : Type 0) → ((s : Session) → o ≡ Some s → is_same_text s.client client ≡ true
      → IsRefusal AccessDenied (accept s).1 → Here) → (Here → (s : Session) × (o ≡ Some s) × (s.client ≡ client)
      × IsRefusal AccessDenied (accept s).1)
      → IsRefusal AccessDenied (in_session state client o accept).1
      ↔ (((s : Session) × (Some o ≡ Some (Some s)) × (s.client ≢ client)) ⊎ Here)
  denied_here None Here f k = (
    (λ h. let bad : InvalidSessionID ≡ AccessDenied = h in cc),
    (λ h. elim h [ inl there ↦ let bad = there.1 in cc | inr here ↦ let bad = (k here).1 in cc ]),
  )
  denied_here (Some s) Here f k = (
    (λ h. elim (cases_Bool (is_same_text s.client client)) [
      | inl hit ↦ inr (f s refl hit (rw hit at h))
      | inr miss ↦ inl (s, refl, λ e. both_ways (is_same_text s.client client) miss (text_same s.client client e))
    ]),
    (λ h. elim h [
      | inl there ↦
          let same : s ≡ there.0 = let e = there.1 in cc in
          elim (cases_Bool (is_same_text s.client client)) [
            | inl hit ↦ absurd (there.2 (ap (λ (t : Session). t.client) (sym same) ∙ text_is s.client client hit))
            | inr miss ↦ rw miss refl
          ]
      | inr here ↦
          let there = k here in
          let same : there.0 ≡ s = let e = there.1 in cc in
          let own : is_same_text s.client client ≡ true = text_same s.client client (ap (λ (t : Session). t.client) (sym same) ∙ there.2) in
          let refused : IsRefusal AccessDenied (accept s).1 = subst_refusal there.0 s same there.3 in
          rw own refused
    ]),
  )
    where
      subst_refusal : (t u : Session) → t ≡ u → IsRefusal AccessDenied (accept t).1 → IsRefusal AccessDenied (accept u).1
      subst_refusal t u e h = rw (← e) h

  denies_another : (o : Option Session) → ((s : Session) → IsRefusal AccessDenied (accept s).1 → ⊥)
      → IsRefusal AccessDenied (in_session state client o accept).1
      ↔ (((s : Session) × (Some o ≡ Some (Some s)) × (s.client ≢ client)) ⊎ ⊥)
  denies_another o f = denied_here o ⊥ (λ s e own h. f s h) (λ bad. absurd bad)

  other : (o : Option Session) (code : Code) → (InvalidSessionID ≡ code → ⊥) → (AccessDenied ≡ code → ⊥)
      → ((s : Session) → IsRefusal code (accept s).1 → ⊥) → IsRefusal code (in_session state client o accept).1 → ⊥
  other None code a b f h = a h
  other (Some s) code a b f h = elim (cases_Bool (is_same_text s.client client))
      [ inl hit ↦ f s (rw hit at h) | inr miss ↦ b (rw miss at h) ]

  -- a refusal leaves the state
  leaves : (o : Option Session) (code : Code) → ((s : Session) → IsRefusal code (accept s).1 → (accept s).0 ≡ state)
      → IsRefusal code (in_session state client o accept).1 → (in_session state client o accept).0 ≡ state
  leaves None code f h = refl
  leaves (Some s) code f h = elim (cases_Bool (is_same_text s.client client))
      [ inl hit ↦ rw hit (f s (rw hit at h)) | inr miss ↦ rw miss refl ]

-- a poll
module _ (state : State) (client : List ℕ) where
  poll_missing : (again : Bool) (o : Option Session)
      → IsRefusal InvalidSessionID (poll state client again o).1 ↔ ((Some o ≡ Some None) × (again ≡ false))
  poll_missing true None = ((λ h. absurd h), (λ e. let bad = e.1 in cc))
  poll_missing true (Some s) = (
    (λ h. let bad = ((missing state client (poll_in state true) (Some s) (λ t k. poll_never state true t InvalidSessionID k)).0 h).0 in cc),
    (λ e. let bad = e.0 in cc),
  )
  poll_missing false o = missing state client (poll_in state false) o (λ t k. poll_never state false t InvalidSessionID k)

  poll_denied : (again : Bool) (o : Option Session) → IsRefusal AccessDenied (poll state client again o).1
      ↔ (((s : Session) × (Some o ≡ Some (Some s)) × (s.client ≢ client)) ⊎ ⊥)
  poll_denied true None = ((λ h. absurd h), (λ h. elim h [ inl there ↦ let bad = there.1 in cc | inr bad ↦ absurd bad ]))
  poll_denied true (Some s) = denies_another state client (poll_in state true) (Some s) (λ t k. poll_never state true t AccessDenied k)
  poll_denied false o = denies_another state client (poll_in state false) o (λ t k. poll_never state false t AccessDenied k)

  poll_other : (again : Bool) (o : Option Session) (code : Code) → (InvalidSessionID ≡ code → ⊥) → (AccessDenied ≡ code → ⊥)
      → IsRefusal code (poll state client again o).1 → ⊥
  poll_other true None code a b h = h
  poll_other true (Some s) code a b h = other state client (poll_in state true) (Some s) code a b (λ t k. poll_never state true t code k) h
  poll_other false o code a b h = other state client (poll_in state false) o code a b (λ t k. poll_never state false t code k) h

  poll_leaves : (again : Bool) (o : Option Session) (code : Code) → IsRefusal code (poll state client again o).1
      → (poll state client again o).0 ≡ state
  poll_leaves true None code h = refl
  poll_leaves true (Some s) code h =
      leaves state client (poll_in state true) (Some s) code (λ t k. absurd (poll_never state true t code k)) h
  poll_leaves false o code h = leaves state client (poll_in state false) o code (λ t k. absurd (poll_never state false t code k)) h

-- a search in a session
too_much : (state : State) (client : List ℕ) (o : Option Session) (asked : Search)
    → IsRefusal SearchResultsTooBig (in_session state client o (search state asked)).1
    ↔ (((s : Session) × (o ≡ Some s) × (s.client ≡ client)) × (asked.max_size < fresh_size state.graph asked))
too_much state client None asked = ((λ h. let bad : InvalidSessionID ≡ SearchResultsTooBig = h in cc), (λ h. let bad = h.0.1 in cc))
too_much state client (Some s) asked = (
  (λ h. elim (cases_Bool (is_same_text s.client client)) [
    | inl hit ↦ ((s, refl, text_is s.client client hit), (search_refuses state asked s SearchResultsTooBig (rw hit at h)).1)
    | inr miss ↦ let bad : AccessDenied ≡ SearchResultsTooBig = rw miss at h in cc
  ]),
  (λ h.
      let same : s ≡ h.0.0 = let e = h.0.1 in cc in
      let own : is_same_text s.client client ≡ true = text_same s.client client (ap (λ (t : Session). t.client) same ∙ h.0.2) in
      rw own (search_refused state asked s h.1)),
)

-- a subscribe in a session
no_room : (state : State) (client : List ℕ) (o : Option Session) (ops : List SubscribeOp)
    → IsRefusal SystemError (in_session state client o (subscribe state ops)).1
    ↔ ((s : Session) × (o ≡ Some s) × (s.client ≡ client) × LacksRoom state ops s)
no_room state client None ops = ((λ h. let bad : InvalidSessionID ≡ SystemError = h in cc), (λ h. let bad = h.1 in cc))
no_room state client (Some s) ops = (
  (λ h. elim (cases_Bool (is_same_text s.client client)) [
    | inl hit ↦
        let none = (subscribe_refuses state s (told_by_ops state ops s) SystemError (rw hit at h)).1 in
        (s, refl, text_is s.client client hit, (no_room_where state.graph s.serial ops (told_in state s)).0 none)
    | inr miss ↦ let bad : AccessDenied ≡ SystemError = rw miss at h in cc
  ]),
  (λ h.
      let same : h.0 ≡ s = let e = h.1 in cc in
      let own : is_same_text s.client client ≡ true = text_same s.client client (ap (λ (t : Session). t.client) (sym same) ∙ h.2) in
      let meets = subst (LacksRoom state ops) same h.3 in
      let none = (no_room_where state.graph s.serial ops (told_in state s)).1 meets in
      rw own (subscribe_refused state s (told_by_ops state ops s) none)),
)

-- a new session
none_is : (o : Option Session) → is_none o ≡ true → o ≡ None
none_is None e = refl
none_is (Some s) e = cc

is_none_of : (o : Option Session) → o ≡ None → is_none o ≡ true
is_none_of None e = refl
is_none_of (Some s) e = cc

full_means : (state : State) (client : List ℕ) → is_full state client ≡ true
    → ((most_sessions ≤ length state.sessions) × (session_of_client client state.sessions ≡ None)) ⊎ (state.counter ≡ 2 ^ 64 - 1)
full_means state client e =
    elim (or_cases (nat_le most_sessions (length state.sessions) && is_none (session_of_client client state.sessions))
    (state.counter == 2 ^ 64 - 1) e) [
      | inl all ↦
          let both = and_parts (nat_le most_sessions (length state.sessions)) (is_none (session_of_client client state.sessions)) all in
          inl (grind (arith, nat_tests, both.0), none_is (session_of_client client state.sessions) both.1)
      | inr last ↦ inr (eqb-true state.counter (2 ^ 64 - 1) last)
    ]

full_where : (state : State) (client : List ℕ) → ((most_sessions ≤ length state.sessions)
    × (session_of_client client state.sessions ≡ None)) ⊎ (state.counter ≡ 2 ^ 64 - 1) → is_full state client ≡ true
full_where state client (inl all) =
    or_left (nat_le most_sessions (length state.sessions) && is_none (session_of_client client state.sessions))
    (state.counter == 2 ^ 64 - 1)
    (and_from (nat_le most_sessions (length state.sessions)) (is_none (session_of_client client state.sessions))
    (grind (arith, nat_tests, all.0)) (is_none_of (session_of_client client state.sessions) all.1))
full_where state client (inr last) =
    or_right (nat_le most_sessions (length state.sessions) && is_none (session_of_client client state.sessions))
    (state.counter == 2 ^ 64 - 1) (eq-eqb state.counter (2 ^ 64 - 1) last)

new_refuses : (state : State) (client : List ℕ) (random : ℕ) (limit : Option ℕ) (code : Code)
    → IsRefusal code (new_session state client random limit).1 → (SystemError ≡ code) × (is_full state client ≡ true)
new_refuses state client random limit code h =
    elim (cases_Bool (is_full state client)) [ inl hit ↦ (rw hit at h, hit) | inr miss ↦ absurd (rw miss at h) ]

none_left : (state : State) (client : List ℕ) (random : ℕ) (limit : Option ℕ)
    → IsRefusal SystemError (new_session state client random limit).1
    ↔ (((most_sessions ≤ length state.sessions) × (session_of_client client state.sessions ≡ None)) ⊎ (state.counter ≡ 2 ^ 64 - 1))
none_left state client random limit = (
  (λ h. full_means state client (new_refuses state client random limit SystemError h).1),
  (λ h. rw (full_where state client h) refl),
)

new_leaves : (state : State) (client : List ℕ) (random : ℕ) (limit : Option ℕ) (code : Code)
    → IsRefusal code (new_session state client random limit).1 → (new_session state client random limit).0 ≡ state
new_leaves state client random limit code h = rw ((new_refuses state client random limit code h).1) refl

module _ (state : State) (event : Event) where
  abbrev client : List ℕ
  client = event.client

  pub invalid_session : (ask : Ask) → IsRefusal InvalidSessionID (step_ask state event ask).1
      ↔ NamesNoSession state event.again ask
  invalid_session (Lost id) = ((λ h. absurd (lost_never state client (session_in state id) InvalidSessionID h)), (λ e. let bad = e.0 in cc))
  invalid_session (Request (the_request.NewSession limit)) = (
    (λ h. let bad : SystemError ≡ InvalidSessionID = (new_refuses state client event.random limit InvalidSessionID h).0 in cc),
    (λ e. let bad = e.0 in cc),
  )
  invalid_session (Request (the_request.RenewSession id)) = missing state client (renew_session state) (session_in state id) (λ s h. h)
  invalid_session (Request (the_request.EndSession id)) = missing state client (end_session state) (session_in state id) (λ s h. h)
  invalid_session (Request (the_request.Publish id ops)) = missing state client (publish state ops) (session_in state id) (λ s h. h)
  invalid_session (Request (the_request.Search id asked)) =
      missing state client (search state asked) (session_in state id)
      (λ s h. let bad : SearchResultsTooBig ≡ InvalidSessionID = (search_refuses state asked s InvalidSessionID h).0 in cc)
  invalid_session (Request (the_request.Subscribe id ops)) =
      missing state client (subscribe state ops) (session_in state id)
      (λ s h. let bad : SystemError ≡ InvalidSessionID = (subscribe_refuses state s (told_by_ops state ops s) InvalidSessionID h).0 in cc)
  invalid_session (Request (the_request.Poll id)) = poll_missing state client event.again (session_in state id)
  invalid_session (Request (the_request.PurgePublisher id publisher)) =
      missing state client (purge state publisher) (session_in state id)
      (λ s h. let bad : AccessDenied ≡ InvalidSessionID = (purge_refuses state publisher s InvalidSessionID h).0 in cc)

  pub access_denied : (ask : Ask) → IsRefusal AccessDenied (step_ask state event ask).1
      ↔ (NamesAnothersSession state client ask ⊎ PurgesAnother state client ask)
  access_denied (Lost id) = (
    (λ h. absurd (lost_never state client (session_in state id) AccessDenied h)),
    (λ h. elim h [ inl there ↦ let bad = there.1 in cc | inr bad ↦ absurd bad ]),
  )
  access_denied (Request (the_request.NewSession limit)) = (
    (λ h. let bad : SystemError ≡ AccessDenied = (new_refuses state client event.random limit AccessDenied h).0 in cc),
    (λ h. elim h [ inl there ↦ let bad = there.1 in cc | inr bad ↦ absurd bad ]),
  )
  access_denied (Request (the_request.RenewSession id)) = denies_another state client (renew_session state) (session_in state id) (λ s h. h)
  access_denied (Request (the_request.EndSession id)) = denies_another state client (end_session state) (session_in state id) (λ s h. h)
  access_denied (Request (the_request.Publish id ops)) = denies_another state client (publish state ops) (session_in state id) (λ s h. h)
  access_denied (Request (the_request.Search id asked)) =
      denies_another state client (search state asked) (session_in state id)
      (λ s h. let bad : SearchResultsTooBig ≡ AccessDenied = (search_refuses state asked s AccessDenied h).0 in cc)
  access_denied (Request (the_request.Subscribe id ops)) =
      denies_another state client (subscribe state ops) (session_in state id)
      (λ s h. let bad : SystemError ≡ AccessDenied = (subscribe_refuses state s (told_by_ops state ops s) AccessDenied h).0 in cc)
  access_denied (Request (the_request.Poll id)) = poll_denied state client event.again (session_in state id)
  access_denied (Request (the_request.PurgePublisher id publisher)) =
      denied_here state client (purge state publisher) (session_in state id)
      (((s : Session) × (session_in state id ≡ Some s) × (s.client ≡ client)) × (publisher ≢ client)) (λ s e own h. (
        (s, e, text_is s.client client own),
        λ same. both_ways (is_same_text publisher s.client) (purge_refuses state publisher s AccessDenied h).1
            (text_same publisher s.client (same ∙ sym (text_is s.client client own))),
      ))
      (λ h. (h.0.0, h.0.1, h.0.2, purge_refused h.0.0 publisher (λ same. h.1 (same ∙ h.0.2))))
    where
      purge_refused : (s : Session) (publisher : List ℕ) → (publisher ≡ s.client → ⊥) → IsRefusal AccessDenied (purge state publisher s).1
      purge_refused s publisher differ =
          elim (cases_Bool (is_same_text publisher s.client)) [
            | inl hit ↦ absurd (differ (text_is publisher s.client hit))
            | inr miss ↦ rw miss refl
          ]

  -- no cause where none is
  never : (P : Type 0) → (P → ⊥) → P ↔ (⊥ ⊎ ⊥)
  never P f = ((λ h. absurd (f h)), (λ h. elim h [ inl bad ↦ absurd bad | inr bad ↦ absurd bad ]))

  pub system_error : (ask : Ask) → IsRefusal SystemError (step_ask state event ask).1
      ↔ (AsksForNoneLeft state client ask ⊎ HasNoRoomForName state client ask)
  system_error (Lost id) = never _ (λ h. lost_never state client (session_in state id) SystemError h)
  system_error (Request (the_request.NewSession limit)) = (
    (λ h. inl ((none_left state client event.random limit).0 h)),
    (λ h. elim h [ inl full ↦ (none_left state client event.random limit).1 full | inr bad ↦ absurd bad ]),
  )
  system_error (Request (the_request.RenewSession id)) =
      never _ (λ h. other state client (renew_session state) (session_in state id) SystemError (λ e. cc) (λ e. cc) (λ s k. k) h)
  system_error (Request (the_request.EndSession id)) =
      never _ (λ h. other state client (end_session state) (session_in state id) SystemError (λ e. cc) (λ e. cc) (λ s k. k) h)
  system_error (Request (the_request.Publish id ops)) =
      never _ (λ h. other state client (publish state ops) (session_in state id) SystemError (λ e. cc) (λ e. cc) (λ s k. k) h)
  system_error (Request (the_request.Search id asked)) =
      never _ (λ h. other state client (search state asked) (session_in state id) SystemError (λ e. cc) (λ e. cc)
      (λ s k. let bad : SearchResultsTooBig ≡ SystemError = (search_refuses state asked s SystemError k).0 in cc) h)
  system_error (Request (the_request.Subscribe id ops)) = (
    (λ h. inr ((no_room state client (session_in state id) ops).0 h)),
    (λ h. elim h [ inl bad ↦ absurd bad | inr none ↦ (no_room state client (session_in state id) ops).1 none ]),
  )
  system_error (Request (the_request.Poll id)) =
      never _ (λ h. poll_other state client event.again (session_in state id) SystemError (λ e. cc) (λ e. cc) h)
  system_error (Request (the_request.PurgePublisher id publisher)) =
      never _ (λ h. other state client (purge state publisher) (session_in state id) SystemError (λ e. cc) (λ e. cc)
      (λ s k. let bad : AccessDenied ≡ SystemError = (purge_refuses state publisher s SystemError k).0 in cc) h)

  pub too_big : (ask : Ask) → IsRefusal SearchResultsTooBig (step_ask state event ask).1 ↔ FindsTooMuch state client ask
  too_big (Lost id) = ((λ h. absurd (lost_never state client (session_in state id) SearchResultsTooBig h)), (λ h. absurd h))
  too_big (Request (the_request.NewSession limit)) = (
    (λ h. let bad : SystemError ≡ SearchResultsTooBig = (new_refuses state client event.random limit SearchResultsTooBig h).0 in cc),
    (λ h. absurd h),
  )
  too_big (Request (the_request.RenewSession id)) = (
    (λ h. absurd (other state client (renew_session state) (session_in state id) SearchResultsTooBig (λ e. cc) (λ e. cc) (λ s k. k) h)),
    (λ h. absurd h),
  )
  too_big (Request (the_request.EndSession id)) = (
    (λ h. absurd (other state client (end_session state) (session_in state id) SearchResultsTooBig (λ e. cc) (λ e. cc) (λ s k. k) h)),
    (λ h. absurd h),
  )
  too_big (Request (the_request.Publish id ops)) = (
    (λ h. absurd (other state client (publish state ops) (session_in state id) SearchResultsTooBig (λ e. cc) (λ e. cc) (λ s k. k) h)),
    (λ h. absurd h),
  )
  too_big (Request (the_request.Search id asked)) = too_much state client (session_in state id) asked
  too_big (Request (the_request.Subscribe id ops)) = (
    (λ h. absurd (other state client (subscribe state ops) (session_in state id) SearchResultsTooBig (λ e. cc) (λ e. cc)
        (λ s k. let bad : SystemError ≡ SearchResultsTooBig = (subscribe_refuses state s
        (told_by_ops state ops s) SearchResultsTooBig k).0 in cc) h)),
    (λ h. absurd h),
  )
  too_big (Request (the_request.Poll id)) =
      ((λ h. absurd (poll_other state client event.again (session_in state id) SearchResultsTooBig (λ e. cc) (λ e. cc) h)), (λ h. absurd h))
  too_big (Request (the_request.PurgePublisher id publisher)) = (
    (λ h. absurd (other state client (purge state publisher) (session_in state id) SearchResultsTooBig (λ e. cc) (λ e. cc)
        (λ s k. let bad : AccessDenied ≡ SearchResultsTooBig = (purge_refuses state publisher s SearchResultsTooBig k).0 in cc) h)),
    (λ h. absurd h),
  )

  -- a refusal changes nothing
  pub refusal_leaves : (code : Code) (ask : Ask) → IsRefusal code (step_ask state event ask).1
      → (step_ask state event ask).0 ≡ state
  refusal_leaves code (Lost id) h = absurd (lost_never state client (session_in state id) code h)
  refusal_leaves code (Request (the_request.NewSession limit)) h = new_leaves state client event.random limit code h
  refusal_leaves code (Request (the_request.RenewSession id)) h =
      leaves state client (renew_session state) (session_in state id) code (λ s k. absurd k) h
  refusal_leaves code (Request (the_request.EndSession id)) h =
      leaves state client (end_session state) (session_in state id) code (λ s k. absurd k) h
  refusal_leaves code (Request (the_request.Publish id ops)) h =
      leaves state client (publish state ops) (session_in state id) code (λ s k. absurd k) h
  refusal_leaves code (Request (the_request.Search id asked)) h =
      leaves state client (search state asked) (session_in state id) code (λ s k. search_leaves state asked s code k) h
  refusal_leaves code (Request (the_request.Subscribe id ops)) h =
      leaves state client (subscribe state ops) (session_in state id) code
      (λ s k. subscribe_leaves state s (told_by_ops state ops s) code k) h
  refusal_leaves code (Request (the_request.Poll id)) h = poll_leaves state client event.again (session_in state id) code h
  refusal_leaves code (Request (the_request.PurgePublisher id publisher)) h =
      leaves state client (purge state publisher) (session_in state id) code (λ s k. purge_leaves state publisher s code k) h
