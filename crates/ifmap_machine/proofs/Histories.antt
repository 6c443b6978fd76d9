-- That every legal history of fit events agrees with what its clients fold.
-- What holds of every state (`Holds`) is kept by each event (`event_holds`), so it holds after each history (`history_holds`). After a
-- poll that was told the session's queue is empty (`told_empties`), and so its client's sets are the fresh results (`histories_agree`).
-- The same is then shown from some entry on: after an accepted update (`renewed_holds`) and after a poll that was told (`told_holds`) what
-- was told before does not matter, so what is told since makes the result (`since_entry`, `entries_agree`).
-- What is stated of graphs alone comes in as premises: `Good` of a graph, which publishes and retractions keep, and that results
-- fold.
use Rattle.std.proofs.Common.{◌≡◌, refl, sym, ◌∙◌, ap, subst, ℕ, ◌==◌, ◌≤◌, Bool, true, false, cond, List, [], ◌∷◌, ◌++◌, map, Option, None}
use Rattle.std.proofs.Common.{Some, inl, inr}
use Rattle.std.proofs.lemmas.Bool.{both_ways, cases_Bool, eq-eqb}
use Rattle.std.proofs.lemmas.Grind.{flat_map-append}
use Rattle.std.specs.List.{AllByRecursion, find}
use Rattle.std.specs.Option.{option_map}
use Rattle.ifmap_folds.specs.Folds.{Sets, fold_items, no_sets, with_entries}
use Rattle.ifmap_folds.specs.ifmap_fresh.Fresh.{fresh}
use Rattle.ifmap_lemmas.specs.Having.{Has, all_has}
use Rattle.ifmap_lemmas.specs.Parted.{find_has}
use Rattle.ifmap_machine.specs.declared.events.Answer.{Answer}
use Rattle.ifmap_machine.specs.declared.events.Answer.TheVariants as the_answer
use Rattle.ifmap_machine.specs.declared.events.Ask.{Ask}
use Rattle.ifmap_machine.specs.declared.events.Ask.TheVariants.{Request, Lost}
use Rattle.ifmap_machine.specs.Agreeing.{Agrees, AgreesAfter, IsToldOrHeld, all_polled, items_polled, items_of_poll}
use Rattle.ifmap_machine.specs.Ending.{drop_sessions, end_former, end_some, expire}
use Rattle.ifmap_machine.specs.Events.{Event, IsFitAsk, IsFitEvent}
use Rattle.ifmap_machine.specs.Legal.{AreFit, History, Legal, LegalFrom, state_after, state_from}
use Rattle.ifmap_machine.specs.Since.{AgreesFrom, FoldsSince, IsToldPoll, KeepsSubscription, Updates}
use Rattle.ifmap_machine.specs.State.{Standing, State, advance, opening_state}
use Rattle.ifmap_machine.specs.Step.{answer_subscribed, author_in, end_session, in_session, is_full, poll, poll_in, poll_queue, publish}
use Rattle.ifmap_machine.specs.Step.{purge, renew, renew_first, renew_session, search, step, step_ask, subscribe, with_told}
use Rattle.ifmap_machine.specs.Subscribing.{Told, subscribe_ops}
use Rattle.ifmap_machine.specs.Telling.{overflow, tell}
use Rattle.ifmap_machine.proofs.Agreeing.{Follows, Tells, begun_follows, drop_follows, one_serial, ops_renew, ops_tell, overflow_follows}
use Rattle.ifmap_machine.proofs.Agreeing.{poll_follows, renewed_follows, tell_follows, tells_fewer, told_follows}
use Rattle.ifmap_machine.proofs.Cases.{former_keeps, in_session_keeps, lost_keeps, poll_keeps, purge_keeps, search_keeps}
use Rattle.ifmap_machine.proofs.Folding.{Folds, fold_joined}
use Rattle.ifmap_machine.proofs.Ids.{one_of_serial}
use Rattle.ifmap_machine.proofs.Standing.{IsStood, ended_stood, event_stood, stood_filter, stood_none}
use Rattle.ifmap_machine.proofs.Tables.{IsTabled, event_table, expired_table, opening_table}
use Rattle.ifmap_meta.specs.ClientNames.{IsClientName}
use Rattle.ifmap_folds.specs.ifmap_plans.declared.plans.Note.{Note}
use Rattle.ifmap_publish.specs.Apply.{Authorship, apply}
use Rattle.ifmap_publish.specs.Notes.{notes_of}
use Rattle.ifmap_publish.specs.declared.who.Who.{Who}
use Rattle.ifmap_publish.specs.declared.who.Who.TheVariants.{Sessions, Publisher}
use Rattle.ifmap_publish.specs.Retract.{retract}
use Rattle.ifmap_publish.specs.ifmap_requests.declared.publish_ops.PublishOp.{PublishOp}
use Rattle.ifmap_publish.specs.ifmap_requests.declared.requests.Request.TheVariants as the_request
use Rattle.ifmap_replies.specs.declared.replies.Reply.TheVariants as the_reply
use Rattle.ifmap_publish.specs.ifmap_requests.declared.requests.SubscribeOp.{SubscribeOp}
use Rattle.ifmap_publish.specs.ifmap_requests.declared.requests.SubscribeOp.TheVariants.{Update}
use Rattle.ifmap_publish.specs.ifmap_requests.Fit.{IsFitOp}
use Rattle.ifmap_replies.specs.ifmap_search.declared.results.PollItem.{PollItem}
use Rattle.ifmap_replies.specs.ifmap_search.declared.searches.Search.{Search}
use Rattle.ifmap_session.specs.Sessions.{Session, change, is_same_text, session_of_client, session_with_id, with_last, without_items}
use Rattle.ifmap_session.specs.laws.TextLaws.{text_is}
use Rattle.ifmap_publish.specs.ifmap_view.declared.attachments.Attachment.{Attachment}

-- ---- after a poll that was told

-- what a function that keeps ids makes of the session that is found
find_mapped : (id : List ℕ) (f : Session → Session) → ((s : Session) → (f s).id ≡ s.id) → (live : List Session)
    → session_with_id id (map f live) ≡ option_map f (session_with_id id live)
find_mapped id f k [] = refl
find_mapped id f k (x ∷ live) =
    elim (cases_Bool (is_same_text x.id id)) [
      | inl hit ↦ let now : is_same_text (f x).id id ≡ true = ap (λ t. is_same_text t id) (k x) ∙ hit in rw (now, hit) refl
      | inr miss ↦ let now : is_same_text (f x).id id ≡ false = ap (λ t. is_same_text t id) (k x) ∙ miss in
          rw (now, miss) (find_mapped id f k live)
    ]

changed_id : (n : ℕ) (f : Session → Session) → ((s : Session) → (f s).id ≡ s.id) → (s : Session) → (cond (s.serial == n) (f s) s).id ≡ s.id
changed_id n f k s = elim (cases_Bool (s.serial == n)) [ inl h ↦ rw h (k s) | inr h ↦ rw h refl ]

renewed_empty : (id : List ℕ) (again : Bool) (n : ℕ) (state : State)
    → ((s : Session) → session_with_id id state.sessions ≡ Some s → s.queue ≡ [])
    → (s : Session) → session_with_id id (renew_first again n state).sessions ≡ Some s → s.queue ≡ []
renewed_empty id true n state h s found = h s found
renewed_empty id false n state h s found =
    at (session_with_id id state.sessions) refl (sym (find_mapped id (λ (u : Session). cond (u.serial == n) (with_last state.moment u) u)
    (changed_id n (with_last state.moment) (λ u. refl)) state.sessions) ∙ found)
  where
    at : (o : Option Session) → session_with_id id state.sessions ≡ o
        → option_map (λ (u : Session). cond (u.serial == n) (with_last state.moment u) u) o ≡ Some s → s.queue ≡ []
    at None there e = cc
    at (Some u) there e =
        let is : cond (u.serial == n) (with_last state.moment u) u ≡ s = cc e in
        let queue : (cond (u.serial == n) (with_last state.moment u) u).queue ≡ u.queue =
        elim (cases_Bool (u.serial == n)) [ inl k ↦ rw k refl | inr k ↦ rw k refl ] in
        ap (λ (y : Session). y.queue) (sym is) ∙ queue ∙ h u there

emptied_empty : (id : List ℕ) (state : State) (own : Session) → session_with_id id state.sessions ≡ Some own → (s : Session)
    → session_with_id id (change own.serial without_items state.sessions) ≡ Some s → s.queue ≡ []
emptied_empty id state own there s found =
    let f : Session → Session = λ u. cond (u.serial == own.serial) (without_items u) u in
    let mapped : session_with_id id (map f state.sessions) ≡ option_map f (session_with_id id state.sessions) =
    find_mapped id f (changed_id own.serial without_items (λ u. refl)) state.sessions in
    let one : option_map f (session_with_id id state.sessions) ≡ Some (f own) = ap (option_map f) there in
    let is : Some (f own) ≡ Some s = sym one ∙ sym mapped ∙ found in
    let same : f own ≡ s = cc is in
    let hit : (own.serial == own.serial) ≡ true = eq-eqb own.serial own.serial refl in
    let empty : (f own).queue ≡ [] = rw hit refl in
    ap (λ (y : Session). y.queue) (sym same) ∙ empty

queue_empties : (id : List ℕ) (state : State) (again : Bool) (own : Session) (queue : List PollItem) → own.queue ≡ queue
    → session_with_id id state.sessions ≡ Some own → (s : Session)
    → session_with_id id (poll_queue state again own queue).0.sessions ≡ Some s → s.queue ≡ []
queue_empties id state again own [] is there =
    renewed_empty id again own.serial state (λ s found. let same : own ≡ s = cc (sym there ∙ found) in
    ap (λ (y : Session). y.queue) (sym same) ∙ is)
queue_empties id state again own (item ∷ items) is there =
    renewed_empty id again own.serial (record state { sessions = change own.serial without_items state.sessions })
    (emptied_empty id state own there)

in_session_empties : (id client : List ℕ) (state : State) (again : Bool) (o : Option Session) → session_with_id id state.sessions ≡ o
    → IsToldOrHeld (in_session state client o (poll_in state again)).1 → (s : Session)
    → session_with_id id (in_session state client o (poll_in state again)).0.sessions ≡ Some s → s.queue ≡ []
in_session_empties id client state again None there told = absurd told
in_session_empties id client state again (Some own) there told =
    elim (cases_Bool (is_same_text own.client client)) [
      | inl hit ↦ rw hit (queue_empties id state again own own.queue refl there)
      | inr miss ↦ absurd (rw miss at told)
    ]

told_empties : (id client : List ℕ) (state : State) (again : Bool) (o : Option Session) → session_with_id id state.sessions ≡ o
    → IsToldOrHeld (poll state client again o).1 → (s : Session)
    → session_with_id id (poll state client again o).0.sessions ≡ Some s → s.queue ≡ []
told_empties id client state true None there told = absurd told
told_empties id client state true (Some own) there told = in_session_empties id client state true (Some own) there told
told_empties id client state false o there told = in_session_empties id client state false o there told

-- and it lives
changed_finds : (id : List ℕ) (n : ℕ) (f : Session → Session) → ((s : Session) → (f s).id ≡ s.id) → (live : List Session) (own : Session)
    → session_with_id id live ≡ Some own → (s : Session) × (session_with_id id (change n f live) ≡ Some s)
changed_finds id n f k live own there = (
  cond (own.serial == n) (f own) own,
  find_mapped id (λ (u : Session). cond (u.serial == n) (f u) u) (changed_id n f k) live
      ∙ ap (option_map (λ (u : Session). cond (u.serial == n) (f u) u)) there,
)

renewed_finds : (id : List ℕ) (again : Bool) (n : ℕ) (state : State) (own : Session) → session_with_id id state.sessions ≡ Some own
    → (s : Session) × (session_with_id id (renew_first again n state).sessions ≡ Some s)
renewed_finds id true n state own there = (own, there)
renewed_finds id false n state own there = changed_finds id n (with_last state.moment) (λ u. refl) state.sessions own there

queue_finds : (id : List ℕ) (state : State) (again : Bool) (own : Session) (queue : List PollItem)
    → session_with_id id state.sessions ≡ Some own
    → (s : Session) × (session_with_id id (poll_queue state again own queue).0.sessions ≡ Some s)
queue_finds id state again own [] there = renewed_finds id again own.serial state own there
queue_finds id state again own (item ∷ items) there =
    let one = changed_finds id own.serial without_items (λ u. refl) state.sessions own there in
    renewed_finds id again own.serial (record state { sessions = change own.serial without_items state.sessions }) one.0 one.1

in_session_finds : (id client : List ℕ) (state : State) (again : Bool) (o : Option Session) → session_with_id id state.sessions ≡ o
    → IsToldOrHeld (in_session state client o (poll_in state again)).1
    → (s : Session) × (session_with_id id (in_session state client o (poll_in state again)).0.sessions ≡ Some s)
in_session_finds id client state again None there told = absurd told
in_session_finds id client state again (Some own) there told =
    elim (cases_Bool (is_same_text own.client client)) [
      | inl hit ↦ rw hit (queue_finds id state again own own.queue there)
      | inr miss ↦ absurd (rw miss at told)
    ]

told_finds : (id client : List ℕ) (state : State) (again : Bool) (o : Option Session) → session_with_id id state.sessions ≡ o
    → IsToldOrHeld (poll state client again o).1 → (s : Session) × (session_with_id id (poll state client again o).0.sessions ≡ Some s)
told_finds id client state true None there told = absurd told
told_finds id client state true (Some own) there told = in_session_finds id client state true (Some own) there told
told_finds id client state false o there told = in_session_finds id client state false o there told

-- ---- what holds of every state

module _ (Good : List Attachment → Type 0) (good_none : Good []) (good_retracted : (who : Who) (rows : List Attachment) → Good rows
    → Good (retract who rows)) (good_applied : (rows : List Attachment) (by : Authorship) (ops : List PublishOp) → IsClientName by.client
    → AllByRecursion IsFitOp ops → Good rows → Good (apply rows by ops)) (folds : (before after : List Attachment) (s : Search)
    → Good before → Good after → Folds before after s) (begins : (rows : List Attachment) (s : Search) → Good rows
    → with_entries (fresh rows s) [] ≡ fresh rows s) where
  record Holds (Live : Standing → Type 0) (done : List ℕ → Sets) (state : State) : Type 0 where
    tabled : IsTabled state
    stood : IsStood state
    good : Good state.graph
    follows : Follows Live done state

  abbrev BothHold : (Standing → Type 0) → (List ℕ → Sets) → State → Type 0
  BothHold Live done state = Good state.graph × Follows Live done state

  -- the ends of sessions
  ended_follows : {Live : Standing → Type 0} (serials : List ℕ) (done : List ℕ → Sets) (state : State)
      → IsStood state → Good state.graph → Follows Live done state
      → Good (end_some serials state).graph × Follows Live done (end_some serials state)
  ended_follows [] done state stood good w = (good, w)
  ended_follows (serial ∷ serials) done state stood good w =
      let left : State = drop_sessions (serial ∷ serials) state in
      let after : List Attachment = retract (Sessions (serial ∷ serials)) state.graph in
      let good_after = good_retracted (Sessions (serial ∷ serials)) state.graph good in (
        good_after,
        overflow_follows done (tell after [] left) (tell_follows after [] done left
            (λ s. folds state.graph after s good good_after) (stood_filter _ state.standing stood)
            (drop_follows (serial ∷ serials) done state w)),
      )

  former_follows : {Live : Standing → Type 0} (o : Option Session) (done : List ℕ → Sets) (state : State)
      → IsStood state → Good state.graph → Follows Live done state
      → Good (end_former o state).graph × Follows Live done (end_former o state)
  former_follows {Live} o done state stood good w =
      former_keeps (BothHold Live done) state o (λ s. ended_follows (s.serial ∷ []) done state stood good w) (good, w)

  changed_follows : {Live : Standing → Type 0} (serial : ℕ) (after : List Attachment) (notes : List Note) (done : List ℕ → Sets)
      (state : State) → IsStood state
      → Good state.graph → Good after → Follows Live done state → Follows Live done (renew serial (overflow (tell after notes state)))
  changed_follows serial after notes done state stood good good_after w =
      renewed_follows serial done (overflow (tell after notes state)) (overflow_follows done (tell after notes state)
      (tell_follows after notes done state (λ s. folds state.graph after s good good_after) stood w))

  in_session_follows : {Live : Standing → Type 0} (done : List ℕ → Sets) (state : State) (client : List ℕ)
      (accept : Session → State × Answer) (o : Option Session)
      → ((s : Session) → o ≡ Some s → is_same_text s.client client ≡ true → Good (accept s).0.graph × Follows Live done (accept s).0)
      → Good state.graph → Follows Live done state
      → Good (in_session state client o accept).0.graph × Follows Live done (in_session state client o accept).0
  in_session_follows {Live} done state client accept o f good w =
      in_session_keeps (BothHold Live done) state client accept o f (good, w)

  subscribed_follows : {Live : Standing → Type 0} (done : List ℕ → Sets) (state : State) (q : Session → Bool) (s : Session)
      (ops : List SubscribeOp)
      → IsTabled state → Good state.graph → Follows Live done state → find q state.sessions ≡ Some s
      → Good (subscribe state ops s).0.graph × Follows Live done (subscribe state ops s).0
  subscribed_follows {Live} done state q s ops tabled good w found =
      let there = (find_has q state.sessions s found).0 in
      let low = all_has (λ (y : Session). y.serial ≤ state.counter) state.sessions tabled.counted s there in
      at (subscribe_ops state.graph s.serial ops (record { queue = s.queue; standing = state.standing }))
      (ops_tell state.graph s.serial state.counter (done s.id) state.standing low (λ a. begins state.graph a good) ops
      (record { queue = s.queue; standing = state.standing }) (record {
        mine = λ x hx own live. w.folded s x there hx own live;
        others = λ x hx other. hx;
        below = w.below;
      }))
    where
      TellSome : Option Told → Type 0
      TellSome None = Unit {0}
      TellSome (Some t) = Tells Live state.graph s.serial state.counter (done s.id) state.standing t

      at : (o : Option Told) → TellSome o → Good (answer_subscribed state s o).0.graph × Follows Live done (answer_subscribed state s o).0
      at None h = (good, w)
      at (Some t) h = (
        good,
        renewed_follows s.serial done _ (overflow_follows done (with_told s.serial t state)
            (told_follows {Live = Live} {Now = Live} done state q s t tabled found (λ x live other. live) h w)),
      )

  -- what is told after one more ask
  abbrev done_after : Ask → Answer → (List ℕ → Sets) → List ℕ → Sets
  done_after ask answer done id = fold_items (items_of_poll id ask (items_polled answer)) (done id)

  step_follows : {Live : Standing → Type 0} (done : List ℕ → Sets) (state : State) (event : Event) (ask : Ask)
      → IsClientName event.client → IsFitAsk ask
      → IsTabled state → IsStood state → Good state.graph → Follows Live done state
      → Good (step_ask state event ask).0.graph × Follows Live (done_after ask (step_ask state event ask).1 done)
      (step_ask state event ask).0
  step_follows {Live} done state event (Lost id) name fit tabled stood good w =
      lost_keeps (BothHold Live done) state event.client (session_with_id id state.sessions)
      (λ s. ended_follows (s.serial ∷ []) done state stood good w) (good, w)
  step_follows done state event (Request (the_request.NewSession limit)) name fit tabled stood good w =
      elim (cases_Bool (is_full state event.client)) [
        | inl hit ↦ rw hit (good, w)
        | inr miss ↦
            let ended = former_follows (session_of_client event.client state.sessions) done state stood good w in
            rw miss (ended.0, begun_follows event.client event.random limit done _ ended.1)
      ]
  step_follows done state event (Request (the_request.RenewSession id)) name fit tabled stood good w =
      in_session_follows done state event.client (renew_session state) (session_with_id id state.sessions)
      (λ s found own. (good, renewed_follows s.serial done state w)) good w
  step_follows done state event (Request (the_request.EndSession id)) name fit tabled stood good w =
      in_session_follows done state event.client (end_session state) (session_with_id id state.sessions)
      (λ s found own. ended_follows (s.serial ∷ []) done state stood good w) good w
  step_follows done state event (Request (the_request.Publish id ops)) name fit tabled stood good w =
      in_session_follows done state event.client (publish state ops) (session_with_id id state.sessions)
      (λ s found own.
      let author : IsClientName s.client = subst IsClientName (sym (text_is s.client event.client own)) name in
      let good_after = good_applied state.graph (author_in state s) ops author fit.1 good in (
        good_after,
        changed_follows s.serial (apply state.graph (author_in state s) ops) (notes_of (author_in state s) ops) done state stood
            good good_after w,
      )) good w
  step_follows {Live} done state event (Request (the_request.Search id asked)) name fit tabled stood good w =
      in_session_follows done state event.client (search state asked) (session_with_id id state.sessions)
      (λ s found own. search_keeps (BothHold Live done) state asked s (good, renewed_follows s.serial done state w) (good, w)) good w
  step_follows done state event (Request (the_request.Subscribe id ops)) name fit tabled stood good w =
      in_session_follows done state event.client (subscribe state ops) (session_with_id id state.sessions)
      (λ s found own. subscribed_follows done state (λ (y : Session). is_same_text y.id id) s ops tabled good w found) good w
  step_follows done state event (Request (the_request.Poll id)) name fit tabled stood good w = (
    poll_keeps (λ (one : State). Good one.graph) (λ serial one g. g) state event.client event.again (session_with_id id state.sessions)
        (λ s. good) good,
    poll_follows done state event.client id event.again (session_with_id id state.sessions) tabled refl w,
  )
  step_follows {Live} done state event (Request (the_request.PurgePublisher id publisher)) name fit tabled stood good w =
      in_session_follows done state event.client (purge state publisher) (session_with_id id state.sessions)
      (λ s found own.
      let good_after = good_retracted (Publisher publisher) state.graph good in
      purge_keeps (BothHold Live done) state publisher s (
        good_after,
        changed_follows s.serial (retract (Publisher publisher) state.graph) [] done state stood good good_after w,
      ) (good, w)) good w

  event_holds : {Live : Standing → Type 0} (done : List ℕ → Sets) (state : State) (event : Event) → IsFitEvent event → Holds Live done state
      → Holds Live (done_after event.ask (step state event).1 done) (step state event).0
  event_holds {Live} done state event fit h =
      let now : State = advance event.moment state in
      let moved : Follows Live done now = record { folded = h.follows.folded; below = h.follows.below } in
      let expired = ended_follows _ done now h.stood h.good moved in
      let after = step_follows done (expire now) event event.ask fit.client fit.ask (expired_table now h.tabled)
      (ended_stood _ now h.stood) expired.0 expired.1 in
      record {
        tabled = event_table state event h.tabled;
        stood = event_stood state event h.stood;
        good = after.0;
        follows = after.1;
      }

  -- ---- histories

  abbrev done_with : History → (List ℕ → Sets) → List ℕ → Sets
  done_with history done id = fold_items (all_polled id history) (done id)

  history_holds : {Live : Standing → Type 0} (history : History) (done : List ℕ → Sets) (state : State)
      → LegalFrom state history → AreFit history
      → Holds Live done state → Holds Live (done_with history done) (state_from state history)
  history_holds [] done state legal fit h = h
  history_holds {Live} (e ∷ history) done state legal fit h =
      let one : Holds Live (done_after e.0.ask e.1 done) (step state e.0).0 =
      subst (λ answer. Holds Live (done_after e.0.ask answer done) (step state e.0).0) (sym legal.0) (event_holds done state e.0 fit.0 h) in
      let rest = history_holds history (done_after e.0.ask e.1 done) (step state e.0).0 legal.1 fit.1 one in
      record {
        tabled = rest.tabled;
        stood = rest.stood;
        good = rest.good;
        follows = record {
          folded = λ s x hs hx same live.
              ap (λ (g : Sets). fold_items s.queue g x.name)
              (fold_joined (items_of_poll s.id e.0.ask (items_polled e.1)) (all_polled s.id history) (done s.id))
              ∙ rest.follows.folded s x hs hx same live;
          below = rest.follows.below;
        };
      }

  opening_holds : {Live : Standing → Type 0} (ttl : ℕ) (done : List ℕ → Sets) → Holds Live done (opening_state ttl)
  opening_holds ttl done = record {
    tabled = opening_table ttl;
    stood = stood_none;
    good = good_none;
    follows = record { folded = λ s x hs hx same live. absurd hs; below = λ x hx. absurd hx };
  }

  state_joined : (state : State) (before rest : History) → state_from state (before ++ rest) ≡ state_from (state_from state before) rest
  state_joined state [] rest = refl
  state_joined state (e ∷ before) rest = state_joined (step state e.0).0 before rest

  legal_before : (state : State) (before rest : History) → LegalFrom state (before ++ rest)
      → LegalFrom state before × LegalFrom (state_from state before) rest
  legal_before state [] rest legal = (tt, legal)
  legal_before state (e ∷ before) rest legal =
      let more = legal_before (step state e.0).0 before rest legal.1 in ((legal.0, more.0), more.1)

  legal_joined : (state : State) (before rest : History) → LegalFrom state before → LegalFrom (state_from state before) rest
      → LegalFrom state (before ++ rest)
  legal_joined state [] rest legal more = more
  legal_joined state (e ∷ before) rest legal more = (legal.0, legal_joined (step state e.0).0 before rest legal.1 more)

  fit_before : (before rest : History) → AreFit (before ++ rest) → AreFit before × AreFit rest
  fit_before [] rest fit = (tt, fit)
  fit_before (e ∷ before) rest fit = let more = fit_before before rest fit.1 in ((fit.0, more.0), more.1)

  fit_joined : (before rest : History) → AreFit before → AreFit rest → AreFit (before ++ rest)
  fit_joined [] rest fit more = more
  fit_joined (e ∷ before) rest fit more = (fit.0, fit_joined before rest fit.1 more)

  -- what is told in entries of which the last is a poll that was told, onto what makes the results before them
  polled_folds : {Live : Standing → Type 0} (done : List ℕ → Sets) (start : State) (before : History) (asked : Event × Answer) (id : List ℕ)
      → Holds Live done start → LegalFrom start (before ++ asked ∷ []) → AreFit (before ++ asked ∷ []) → IsToldPoll id asked
      → (s : Session) (x : Standing) → session_with_id id (state_from start (before ++ asked ∷ [])).sessions ≡ Some s
      → Has (state_from start (before ++ asked ∷ [])).standing x → x.serial ≡ s.serial → Live x
      → fold_items (all_polled id (before ++ asked ∷ [])) (done id) x.name
      ≡ Some (fresh (state_from start (before ++ asked ∷ [])).graph x.search)
  polled_folds done start before asked id holds legal fit told s x found hx same live =
      let history : History = before ++ asked ∷ [] in
      let after : State = state_from start history in
      let held = history_holds history done start legal fit holds in
      let there = find_has (λ (y : Session). is_same_text y.id id) after.sessions s found in
      let own : s.id ≡ id = text_is s.id id there.1 in
      let parts = legal_before start before (asked ∷ []) legal in
      let joined = state_joined start before (asked ∷ []) in
      let now : State = expire (advance asked.0.moment (state_from start before)) in
      let answered : IsToldOrHeld (step_ask now asked.0 (Request (the_request.Poll id))).1 =
      subst (λ ask. IsToldOrHeld (step_ask now asked.0 ask).1) told.0 (subst IsToldOrHeld parts.1.0 told.1) in
      let found_now : session_with_id id (step_ask now asked.0 (Request (the_request.Poll id))).0.sessions ≡ Some s =
      subst (λ ask. session_with_id id (step_ask now asked.0 ask).0.sessions ≡ Some s) told.0
      (ap (λ (y : State). session_with_id id y.sessions) (sym joined) ∙ found) in
      let empty : s.queue ≡ [] =
      told_empties id asked.0.client now asked.0.again (session_with_id id now.sessions) refl answered s found_now in
      let folded = held.follows.folded s x there.0 hx same live in
      subst (λ i. fold_items (all_polled i history) (done i) x.name ≡ Some (fresh after.graph x.search)) own
      (subst (λ q. fold_items q (fold_items (all_polled s.id history) (done s.id)) x.name ≡ Some (fresh after.graph x.search)) empty folded)

  after_one : (ttl : ℕ) (before : History) (event : Event) (answer : Answer) (id : List ℕ) → Legal ttl (before ++ ((event, answer) ∷ []))
      → AreFit (before ++ ((event, answer) ∷ [])) → event.ask ≡ Request (the_request.Poll id) → IsToldOrHeld answer
      → AgreesAfter ttl (before ++ ((event, answer) ∷ [])) id
  after_one ttl before event answer id legal fit asked told s x found hx same =
      polled_folds {Live = λ (y : Standing). Unit {0}} (λ _. no_sets) (opening_state ttl) before (event, answer) id
      (opening_holds ttl (λ _. no_sets)) legal fit (asked, told) s x found hx same tt

  pub histories_agree : (ttl : ℕ) (history : History) → Legal ttl history → AreFit history → Agrees ttl history
  histories_agree ttl history legal fit before rest event answer id is asked told =
      let all_legal : LegalFrom (opening_state ttl) (before ++ ((event, answer) ∷ rest)) = subst (λ h. Legal ttl h) is legal in
      let all_fit : AreFit (before ++ ((event, answer) ∷ rest)) = subst AreFit is fit in
      let parts = legal_before (opening_state ttl) before ((event, answer) ∷ rest) all_legal in
      let fits = fit_before before ((event, answer) ∷ rest) all_fit in
      after_one ttl before event answer id (legal_joined (opening_state ttl) before ((event, answer) ∷ []) parts.0 (parts.1.0, tt))
      (fit_joined before ((event, answer) ∷ []) fits.0 (fits.1.0, tt)) asked told

  -- ---- from some entry on

  -- where no subscription counts, it does not matter what was told before
  none_hold : {Live : Standing → Type 0} (done other : List ℕ → Sets) (state : State) → Holds Live done state
      → Holds (λ (x : Standing). ⊥) other state
  none_hold done other state h = record {
    tabled = h.tabled;
    stood = h.stood;
    good = h.good;
    follows = record { folded = λ s x hs hx same none. absurd none; below = h.follows.below };
  }

  -- after an accepted subscribe that updates a name, the queue of its session makes the result of that name anew
  renewed_answer : (done : List ℕ → Sets) (state : State) (q : Session → Bool) (s : Session) (ops : List SubscribeOp) (name : List ℕ)
      (asked : Search) (n : ℕ) → IsTabled state → Good state.graph → Follows (λ (x : Standing). ⊥) done state
      → find q state.sessions ≡ Some s → Has ops (Update name asked) → s.serial ≡ n
      → (subscribe state ops s).1 ≡ the_answer.Reply the_reply.Subscribed
      → Follows (λ (x : Standing). (x.serial ≡ n) × (x.name ≡ name)) done (subscribe state ops s).0
  renewed_answer done state q s ops name asked n tabled good w found has serial =
      let there = (find_has q state.sessions s found).0 in
      let low = all_has (λ (y : Session). y.serial ≤ state.counter) state.sessions tabled.counted s there in
      at (subscribe_ops state.graph s.serial ops (record { queue = s.queue; standing = state.standing }))
      (ops_renew state.graph s.serial state.counter (done s.id) state.standing low (λ a. begins state.graph a good)
      {Live = λ (x : Standing). ⊥} name asked ops (record { queue = s.queue; standing = state.standing }) has (record {
        mine = λ x hx own none. absurd none;
        others = λ x hx other. hx;
        below = w.below;
      }))
    where
      TellSome : Option Told → Type 0
      TellSome None = Unit {0}
      TellSome (Some t) = Tells (λ (x : Standing). x.name ≡ name) state.graph s.serial state.counter (done s.id) state.standing t

      at : (o : Option Told) → TellSome o → (answer_subscribed state s o).1 ≡ the_answer.Reply the_reply.Subscribed
          → Follows (λ (x : Standing). (x.serial ≡ n) × (x.name ≡ name)) done (answer_subscribed state s o).0
      at None h e = cc
      at (Some t) h e =
          renewed_follows {Live = λ (x : Standing). (x.serial ≡ n) × (x.name ≡ name)} s.serial done _
          (overflow_follows {Live = λ (x : Standing). (x.serial ≡ n) × (x.name ≡ name)} done (with_told s.serial t state)
          (told_follows {Live = λ (x : Standing). ⊥} {Now = λ (x : Standing). (x.serial ≡ n) × (x.name ≡ name)} done state q s t tabled
          found
          (λ x now other. both_ways (x.serial == s.serial) other (eq-eqb x.serial s.serial (now.0 ∙ sym serial)))
          (tells_fewer {Live = λ (x : Standing). x.name ≡ name} {Now = λ (x : Standing). (x.serial ≡ n) × (x.name ≡ name)} state.graph
          s.serial state.counter (done s.id) state.standing t (λ x now. now.1) h) w))

  renewed_in : (done : List ℕ → Sets) (state : State) (client id : List ℕ) (ops : List SubscribeOp) (name : List ℕ) (asked : Search) (n : ℕ)
      (o : Option Session) → session_with_id id state.sessions ≡ o → IsTabled state → Good state.graph
      → Follows (λ (x : Standing). ⊥) done state → Has ops (Update name asked)
      → ((s : Session) → Has state.sessions s → s.id ≡ id → s.serial ≡ n)
      → (in_session state client o (subscribe state ops)).1 ≡ the_answer.Reply the_reply.Subscribed
      → Follows (λ (x : Standing). (x.serial ≡ n) × (x.name ≡ name)) done (in_session state client o (subscribe state ops)).0
  renewed_in done state client id ops name asked n None found tabled good w has serial e = cc
  renewed_in done state client id ops name asked n (Some s) found tabled good w has serial e =
      elim (cases_Bool (is_same_text s.client client)) [
        | inl hit ↦
            let there = find_has (λ (y : Session). is_same_text y.id id) state.sessions s found in
            rw hit (renewed_answer done state (λ (y : Session). is_same_text y.id id) s ops name asked n tabled good w found has
            (serial s there.0 (text_is s.id id there.1)) (rw hit at e))
        | inr miss ↦ let bad = rw miss at e in cc
      ]

  -- what holds after it, whatever was told before
  renewed_holds : {Live : Standing → Type 0} (done other : List ℕ → Sets) (state last : State) (e : Event × Answer) (id name : List ℕ)
      (own : Session) → Holds Live done state → IsFitEvent e.0 → e.1 ≡ (step state e.0).1 → Updates id name e → IsTabled last
      → Has last.sessions own → own.id ≡ id
      → Holds (λ (x : Standing). (x.serial ≡ own.serial) × (x.name ≡ name)) other (step state e.0).0
  renewed_holds done other state last e id name own holds fit answered u tabled there own_is =
      let bare = none_hold done other state holds in
      let now : State = advance e.0.moment state in
      let moved : Follows (λ (x : Standing). ⊥) other now =
      record { folded = λ s x hs hx same none. absurd none; below = bare.follows.below } in
      let expired = ended_follows _ other now bare.stood bare.good moved in
      let whole = event_holds other state e.0 fit bare in
      let is : (step_ask (expire now) e.0 (Request (the_request.Subscribe id u.ops))).1 ≡ the_answer.Reply the_reply.Subscribed =
      subst (λ ask. (step_ask (expire now) e.0 ask).1 ≡ the_answer.Reply the_reply.Subscribed) u.ask (sym answered ∙ u.answer) in
      let follows = renewed_in other (expire now) e.0.client id u.ops name u.search own.serial
      (session_with_id id (expire now).sessions) refl (expired_table now bare.tabled) expired.0 expired.1 u.named
      (λ s hs same. one_serial (expire now) last s own (expired_table now bare.tabled) tabled hs there (same ∙ sym own_is)) is in
      record {
        tabled = whole.tabled;
        stood = whole.stood;
        good = whole.good;
        follows = subst (λ ask. Follows (λ (x : Standing). (x.serial ≡ own.serial) × (x.name ≡ name)) other
            (step_ask (expire now) e.0 ask).0) (sym u.ask) follows;
      }

  -- after a poll that was told, the queue of its session is empty, and what makes the result of a subscription there is that result
  told_holds : {Live : Standing → Type 0} (done : List ℕ → Sets) (state last : State) (e : Event × Answer) (id : List ℕ) (own : Session)
      (x : Standing) (sets : Sets) → Holds Live done state → IsFitEvent e.0 → e.1 ≡ (step state e.0).1 → IsToldPoll id e → IsTabled last
      → Has last.sessions own → own.id ≡ id → x.serial ≡ own.serial
      → sets x.name ≡ Some (fresh (step state e.0).0.graph x.search)
      → Holds (λ (y : Standing). y ≡ x) (λ _. sets) (step state e.0).0
  told_holds done state last e id own x sets holds fit answered poll tabled there own_is serial is =
      let bare = none_hold done (λ _. sets) state holds in
      let whole = event_holds (λ _. sets) state e.0 fit bare in
      let now : State = expire (advance e.0.moment state) in
      let told : IsToldOrHeld (step_ask now e.0 (Request (the_request.Poll id))).1 =
      subst (λ ask. IsToldOrHeld (step_ask now e.0 ask).1) poll.0 (subst IsToldOrHeld answered poll.1) in
      let one = told_finds id e.0.client now e.0.again (session_with_id id now.sessions) refl told in
      let found : session_with_id id (step state e.0).0.sessions ≡ Some one.0 =
      subst (λ ask. session_with_id id (step_ask now e.0 ask).0.sessions ≡ Some one.0) (sym poll.0) one.1 in
      let empty : one.0.queue ≡ [] =
      told_empties id e.0.client now e.0.again (session_with_id id now.sessions) refl told one.0 one.1 in
      let has = find_has (λ (y : Session). is_same_text y.id id) (step state e.0).0.sessions one.0 found in
      let serials : one.0.serial ≡ own.serial =
      one_serial (step state e.0).0 last one.0 own whole.tabled tabled has.0 there (text_is one.0.id id has.1 ∙ sym own_is) in
      record {
        tabled = whole.tabled;
        stood = whole.stood;
        good = whole.good;
        follows = record {
          folded = λ s y hs hy same live.
              let mine : s ≡ one.0 = one_of_serial (step state e.0).0.sessions s one.0 whole.tabled.rising hs has.0
              (sym same ∙ ap (λ (z : Standing). z.serial) live ∙ serial ∙ sym serials) in
              let none : s.queue ≡ [] = ap (λ (z : Session). z.queue) mine ∙ empty in
              subst (λ (z : Standing). fold_items s.queue sets z.name ≡ Some (fresh (step state e.0).0.graph z.search)) (sym live)
              (subst (λ q. fold_items q sets x.name ≡ Some (fresh (step state e.0).0.graph x.search)) (sym none) is);
          below = whole.follows.below;
        };
      }

  all_joined : (id : List ℕ) (first since : History) (e : Event × Answer) (sets : Sets)
      → fold_items (all_polled id (first ++ e ∷ since)) sets
      ≡ fold_items (all_polled id since) (fold_items (items_of_poll id e.0.ask (items_polled e.1)) (fold_items (all_polled id first) sets))
  all_joined id first since e sets =
      let told : Event × Answer → List PollItem = λ a. items_of_poll id a.0.ask (items_polled a.1) in
      ap (λ items. fold_items items sets) (flat_map-append told first (e ∷ since))
      ∙ fold_joined (all_polled id first) (all_polled id (e ∷ since)) sets
      ∙ fold_joined (told e) (all_polled id since) (fold_items (all_polled id first) sets)

  since_entry : (start : State) (first later : History) (e asked : Event × Answer) (id : List ℕ) (x : Standing)
      → Holds (λ (y : Standing). ⊥) (λ _. no_sets) start → LegalFrom start (first ++ e ∷ (later ++ asked ∷ []))
      → AreFit (first ++ e ∷ (later ++ asked ∷ [])) → IsToldPoll id asked
      → KeepsSubscription (state_from start (first ++ e ∷ (later ++ asked ∷ []))) id x → FoldsSince start first (later ++ asked ∷ []) e id x
  since_entry start first later e asked id x holds legal fit told keeps =
      let since : History = later ++ asked ∷ [] in
      let last : State = state_from start (first ++ e ∷ since) in
      let mid : State = state_from start first in
      let parts = legal_before start first (e ∷ since) legal in
      let fits = fit_before first (e ∷ since) fit in
      let bare = history_holds first (λ _. no_sets) start parts.0 fits.0 holds in
      let whole = history_holds (first ++ e ∷ since) (λ _. no_sets) start legal fit holds in
      let there = find_has (λ (y : Session). is_same_text y.id id) last.sessions keeps.session keeps.found in
      let own_is : keeps.session.id ≡ id = text_is keeps.session.id id there.1 in
      let joined : last ≡ state_from (step mid e.0).0 since = state_joined start first (e ∷ since) in
      let found : session_with_id id (state_from (step mid e.0).0 since).sessions ≡ Some keeps.session =
      ap (λ (y : State). session_with_id id y.sessions) (sym joined) ∙ keeps.found in
      let stands : Has (state_from (step mid e.0).0 since).standing x = subst (λ (y : State). Has y.standing x) joined keeps.stands in
      let result : Some (fresh (state_from (step mid e.0).0 since).graph x.search) ≡ Some (fresh last.graph x.search) =
      ap (λ (y : State). Some (fresh y.graph x.search)) (sym joined) in
      record {
        updated = λ u.
            let sets : List ℕ → Sets = λ i. fold_items (items_of_poll i e.0.ask (items_polled e.1))
            (fold_items (all_polled i first) no_sets) in
            let renewed = renewed_holds _ sets mid last e id x.name keeps.session bare fits.1.0 parts.1.0 u whole.tabled there.0 own_is in
            ap (λ (f : Sets). f x.name) (all_joined id first since e no_sets)
            ∙ polled_folds sets (step mid e.0).0 later asked id renewed parts.1.1 fits.1.1 told keeps.session x found stands keeps.own
            (keeps.own, refl) ∙ result;
        polled = λ earlier sets is.
            let at_one : sets x.name ≡ Some (fresh (step mid e.0).0.graph x.search) =
            is ∙ ap (λ (y : State). Some (fresh y.graph x.search)) (state_joined start first (e ∷ [])) in
            let at_told = told_holds _ mid last e id keeps.session x sets bare fits.1.0 parts.1.0 earlier whole.tabled there.0 own_is
            keeps.own at_one in
            polled_folds (λ _. sets) (step mid e.0).0 later asked id at_told parts.1.1 fits.1.1 told keeps.session x found stands keeps.own
            refl ∙ result;
      }

  pub entries_agree : (ttl : ℕ) (past entries : History) → Legal ttl (past ++ entries) → AreFit (past ++ entries)
      → AgreesFrom (state_after ttl past) entries
  entries_agree ttl past entries legal fit first later rest e poll id x is told keeps =
      let start : State = state_after ttl past in
      let parts = legal_before (opening_state ttl) past entries legal in
      let fits = fit_before past entries fit in
      let holds = history_holds past (λ _. no_sets) (opening_state ttl) parts.0 fits.0
      (opening_holds {Live = λ (y : Standing). ⊥} ttl (λ _. no_sets)) in
      let legal_all : LegalFrom start (first ++ e ∷ (later ++ poll ∷ rest)) = subst (LegalFrom start) is parts.1 in
      let fit_all : AreFit (first ++ e ∷ (later ++ poll ∷ rest)) = subst AreFit is fits.1 in
      let before = legal_before start first (e ∷ (later ++ poll ∷ rest)) legal_all in
      let fit_some = fit_before first (e ∷ (later ++ poll ∷ rest)) fit_all in
      let after = legal_before (step (state_from start first) e.0).0 later (poll ∷ rest) before.1.1 in
      let fit_later = fit_before later (poll ∷ rest) fit_some.1.1 in
      since_entry start first later e poll id x (none_hold _ (λ _. no_sets) start holds)
      (legal_joined start first (e ∷ (later ++ poll ∷ [])) before.0
      (before.1.0, legal_joined (step (state_from start first) e.0).0 later (poll ∷ []) after.0 (after.1.0, tt)))
      (fit_joined first (e ∷ (later ++ poll ∷ [])) fit_some.0 (fit_some.1.0, fit_joined later (poll ∷ []) fit_later.0 (fit_later.1.0, tt)))
      told keeps
