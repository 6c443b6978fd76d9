-- In a fit state each event that is fit is answered by what is fit, and the state after it is fit.
-- 1. Entries of whole graphs, and what subscriptions are told of a change (`fit_told_in`).
-- 2. What keeps states fit: telling, queues within limits, ends of sessions, changes of one session (`fit_tell`, `fit_change`).
-- 3. What a publish notifies, and what a subscribe makes of a session (`fit_notes`, `fit_ops`).
-- 4. The case of each request (`fit_ask`), and histories (`fit_history`).
-- That publishes and retractions keep graphs whole is a law of a crate below, and comes in as premises.
use Rattle.std.proofs.Common.{◌≡◌, sym, subst, ℕ, Bool, true, false, not, List, [], ◌∷◌, ◌++◌, map, inl, inr}
use Rattle.std.specs.Prelude.{Option, None, Some, IfSome, option_and_then, ◌==◌}
use Rattle.std.proofs.lemmas.Bool.{cases_Bool}
use Rattle.std.specs.List.{AllByRecursion, filter, find, list_any}
use Rattle.std.specs.Ordering.{is_gt, is_lt}
use Rattle.ifmap_elem.specs.Chars.{IsCharacters}
use Rattle.ifmap_folds.specs.Differences.{difference, has_entry}
use Rattle.ifmap_folds.specs.Notes.{is_told, told_notes}
use Rattle.ifmap_folds.specs.ifmap_fresh.Fresh.{fresh, fresh_size, is_found}
use Rattle.ifmap_ident.specs.Items.{IsCanonItem}
use Rattle.ifmap_ident.specs.declared.codes.Code.TheVariants.{AccessDenied, InvalidSessionID, SystemError}
use Rattle.ifmap_ident.specs.declared.items.Item.{Item}
use Rattle.ifmap_ident.specs.CodeLaws.{code_characters}
use Rattle.ifmap_lemmas.specs.Filters.{all_around, all_filter, all_weaker}
use Rattle.ifmap_lemmas.specs.Mapped.{all_of_joined}
use Rattle.ifmap_lemmas.specs.Members.{both_all, map_of_all}
use Rattle.ifmap_machine.specs.declared.events.Answer.{Answer}
use Rattle.ifmap_machine.specs.declared.events.Ask.{Ask}
use Rattle.ifmap_machine.specs.declared.events.Ask.TheVariants.{Request, Lost}
use Rattle.ifmap_machine.specs.Ending.{drop_sessions, end_former, end_some, expire}
use Rattle.ifmap_machine.specs.Events.{Event, IsFitAsk}
use Rattle.ifmap_machine.specs.FitAnswers.{AreFitAnswers, IsFitAnswer, IsFitQueue, IsFitState, IsFitStep}
use Rattle.ifmap_machine.specs.Legal.{AreFit, History, LegalFrom}
use Rattle.ifmap_machine.specs.State.{Standing, State, advance, standing_in, standing_order}
use Rattle.ifmap_machine.specs.Step.{answer_subscribed, author_in, begin_session, end_session, in_session, is_full, lose, new_session}
use Rattle.ifmap_machine.specs.Step.{next_session, poll, poll_in, poll_queue, publish, purge, renew, renew_first, renew_session}
use Rattle.ifmap_machine.specs.Step.{search, step, step_ask, subscribe}
use Rattle.ifmap_machine.specs.Subscribing.{Told, begin_name, drop_name, is_full_for, is_of_name, subscribe_op, subscribe_ops}
use Rattle.ifmap_machine.specs.Telling.{differences, is_overfull, is_overrun, is_too_big, item_if_any, overflow, overflow_session, tell}
use Rattle.ifmap_machine.specs.Telling.{tell_session, told_in_session, told_to, too_big_item}
use Rattle.ifmap_machine.proofs.FitTexts.{limit_characters, limit_word}
use Rattle.ifmap_meta.specs.ClientNames.{IsClientName}
use Rattle.ifmap_meta.specs.Whole.{IsMetadata}
use Rattle.ifmap_meta.specs.declared.metadata.Metadata.{Metadata}
use Rattle.ifmap_meta.specs.declared.stored.Life.TheVariants.{Forever}
use Rattle.ifmap_meta.specs.laws.WholeLaws.{stamped_is_whole, client_characters}
use Rattle.ifmap_folds.specs.ifmap_plans.declared.plans.Note.{Note}
use Rattle.ifmap_folds.specs.ifmap_plans.Placing.{put}
use Rattle.ifmap_folds.specs.ifmap_plans.Plans.{AreWhole}
use Rattle.ifmap_publish.specs.Apply.{Authorship, apply}
use Rattle.ifmap_publish.specs.Notes.{note_of, notes_of, notes_of_op}
use Rattle.ifmap_publish.specs.Retract.{retract}
use Rattle.ifmap_publish.specs.declared.who.Who.{Who}
use Rattle.ifmap_publish.specs.declared.who.Who.TheVariants.{Sessions, Publisher}
use Rattle.ifmap_replies.specs.Fit.{AreFitEntries, IsFitEntry, IsFitPollItem}
use Rattle.ifmap_publish.specs.ifmap_requests.Fit.{IsFitOp, IsFitSubscribeOp}
use Rattle.ifmap_publish.specs.ifmap_requests.declared.publish_ops.PublishOp.{PublishOp}
use Rattle.ifmap_publish.specs.ifmap_requests.declared.publish_ops.PublishOp.TheVariants as the_op
use Rattle.ifmap_publish.specs.ifmap_requests.declared.requests.Request.TheVariants as the_request
use Rattle.ifmap_publish.specs.ifmap_requests.declared.requests.SubscribeOp.{SubscribeOp}
use Rattle.ifmap_publish.specs.ifmap_requests.declared.requests.SubscribeOp.TheVariants.{Update, Delete}
use Rattle.ifmap_replies.specs.ifmap_search.declared.results.Entry.{Entry}
use Rattle.ifmap_replies.specs.ifmap_search.declared.results.PollItem.{PollItem}
use Rattle.ifmap_replies.specs.ifmap_search.declared.results.PollItem.TheVariants as the_item
use Rattle.ifmap_replies.specs.ifmap_search.declared.searches.Search.{Search}
use Rattle.ifmap_session.specs.Sessions.{Session, change, is_named, is_same_text, session_of_client, with_last, without_items}
use Rattle.ifmap_session.specs.Sessions.{session_with_id}
use Rattle.ifmap_session.specs.laws.TextLaws.{text_is}
use Rattle.ifmap_publish.specs.ifmap_view.declared.attachments.Attachment.{Attachment}
use Rattle.ifmap_publish.specs.ifmap_view.Attachments.{IsGraph}
use Rattle.ifmap_session.specs.laws.IdLaws.{id_characters}
use Rattle.ifmap_folds.specs.ifmap_fresh.laws.GatheringLaws.{row_entry}

-- ---- 1. what is found and told

abbrev entry_noted : Note → Entry
entry_noted n = record { item = n.item; element = n.element }

abbrev AreFitNotes : List Note → Type 0
AreFitNotes notes = AllByRecursion (λ n. IsFitEntry (entry_noted n)) notes

abbrev HasFitQueue : Session → Type 0
HasFitQueue s = IsFitQueue s.queue

abbrev HasFitName : Standing → Type 0
HasFitName x = IsCharacters x.name

fit_rows : (rows : List Attachment) → AllByRecursion (λ r. IsCanonItem r.item) rows → AreWhole rows
    → AllByRecursion (λ r. IsFitEntry (row_entry r)) rows
fit_rows [] items whole = tt
fit_rows (r ∷ rows) items whole = (record { item = items.0; element = whole.0.sent }, fit_rows rows items.1 whole.1)

module _ (rows : List Attachment) (graph : IsGraph rows) (whole : AreWhole rows) where
  fit_fresh : (s : Search) → AreFitEntries (fresh rows s)
  fit_fresh s =
      map_of_all IsFitEntry row_entry (filter (is_found rows s) rows)
      (all_filter (λ r. IsFitEntry (row_entry r)) (is_found rows s) rows (fit_rows rows graph.items whole))

fit_difference : (a b : List Entry) → AreFitEntries a → AreFitEntries (difference a b)
fit_difference a b f = all_filter IsFitEntry (λ e. not (has_entry b e)) a f

fit_noted : (after : List Attachment) (s : Search) (notes : List Note) → AreFitNotes notes → AreFitEntries (told_notes after s notes)
fit_noted after s notes f =
    map_of_all IsFitEntry entry_noted (filter (is_told after s) notes)
    (all_filter (λ n. IsFitEntry (entry_noted n)) (is_told after s) notes f)

fit_where : (item : List Entry → PollItem) → ((entries : List Entry) → AreFitEntries entries → IsFitPollItem (item entries))
    → (entries : List Entry) → AreFitEntries entries → IsFitQueue (item_if_any item entries)
fit_where item f [] e = tt
fit_where item f (x ∷ entries) e = (f (x ∷ entries) e, tt)

module _ (before after : List Attachment) (notes : List Note) (graph : IsGraph before) (whole : AreWhole before)
    (graph_after : IsGraph after) (whole_after : AreWhole after) (fit : AreFitNotes notes) where
  fit_differences : (x : Standing) → IsCharacters x.name
      → IsFitQueue (differences x.name (fresh before x.search) (fresh after x.search) (told_notes after x.search notes))
  fit_differences x name =
      let old = fresh before x.search in
      let new = fresh after x.search in
      let told = told_notes after x.search notes in
      let went = item_if_any (the_item.Delete x.name) (difference old new) in
      let came = item_if_any (the_item.Update x.name) (difference new old) in
      let noted = item_if_any (the_item.Notify x.name) told in
      both_all IsFitPollItem went (came ++ noted)
      (fit_where (the_item.Delete x.name) (λ es f. (name, f)) (difference old new)
      (fit_difference old new (fit_fresh before graph whole x.search)))
      (both_all IsFitPollItem came noted
      (fit_where (the_item.Update x.name) (λ es f. (name, f)) (difference new old)
      (fit_difference new old (fit_fresh after graph_after whole_after x.search)))
      (fit_where (the_item.Notify x.name) (λ es f. (name, f)) told (fit_noted after x.search notes fit)))

  fit_told_to : (x : Standing) → HasFitName x → IsFitQueue (told_to before after notes x)
  fit_told_to x name = elim (cases_Bool (is_too_big after x.search)) [
    | inl e ↦ rw e ((name, limit_characters (fresh_size after x.search) x.search.max_size), tt)
    | inr e ↦ rw e (fit_differences x name)
  ]

  fit_told_in : (standing : List Standing) (serial : ℕ) → AllByRecursion HasFitName standing
      → IsFitQueue (told_in_session before after notes standing serial)
  fit_told_in standing serial names =
      all_of_joined HasFitName IsFitPollItem (told_to before after notes) fit_told_to (standing_in serial standing)
      (all_filter HasFitName (λ x. x.serial == serial) standing names)

-- ---- 2. what keeps states fit

abbrev told_session : List Attachment → List Note → State → Session → Session
told_session after notes state s = tell_session (told_in_session state.graph after notes state.standing s.serial) s

module _ (after : List Attachment) (notes : List Note) (state : State) (at : IsFitState state) (graph : IsGraph after)
    (whole : AreWhole after) (fit : AreFitNotes notes) where
  fit_more : (s : Session) → HasFitQueue s → HasFitQueue (told_session after notes state s)
  fit_more s f =
      both_all IsFitPollItem s.queue (told_in_session state.graph after notes state.standing s.serial) f
      (fit_told_in state.graph after notes at.graph at.whole graph whole fit state.standing s.serial at.names)

  fit_tell : IsFitState (tell after notes state)
  fit_tell = record {
    graph = graph;
    whole = whole;
    queues = map_of_all HasFitQueue (told_session after notes state) state.sessions
        (all_weaker HasFitQueue (λ s. HasFitQueue (told_session after notes state s)) fit_more state.sessions at.queues);
    names = all_filter HasFitName (λ x. not (is_too_big after x.search)) state.standing at.names;
  }

fit_overfull : (s : Session) → HasFitQueue s → HasFitQueue (overflow_session s)
fit_overfull s f = elim (cases_Bool (is_overfull s)) [
  | inl e ↦ rw e ((tt, limit_characters _ _), tt)
  | inr e ↦ rw e f
]

fit_overflow : (state : State) → IsFitState state → IsFitState (overflow state)
fit_overflow state at = record {
  graph = at.graph;
  whole = at.whole;
  queues = map_of_all HasFitQueue overflow_session state.sessions
      (all_weaker HasFitQueue (λ s. HasFitQueue (overflow_session s)) fit_overfull state.sessions at.queues);
  names = all_filter HasFitName (λ x. not (is_overrun state.sessions x)) state.standing at.names;
}

fit_drop : (serials : List ℕ) (state : State) → IsFitState state → IsFitState (drop_sessions serials state)
fit_drop serials state at = record {
  graph = at.graph;
  whole = at.whole;
  queues = all_filter HasFitQueue (λ s. not (list_any (λ n. n == s.serial) serials)) state.sessions at.queues;
  names = all_filter HasFitName (λ x. not (list_any (λ n. n == x.serial) serials)) state.standing at.names;
}

fit_change : (serial : ℕ) (f : Session → Session) → ((s : Session) → HasFitQueue s → HasFitQueue (f s)) → (sessions : List Session)
    → AllByRecursion HasFitQueue sessions → AllByRecursion HasFitQueue (change serial f sessions)
fit_change serial f h [] all = tt
fit_change serial f h (s ∷ sessions) all = (
  elim (cases_Bool (s.serial == serial)) [ inl e ↦ rw e (h s all.0) | inr e ↦ rw e all.0 ],
  fit_change serial f h sessions all.1,
)

fit_renew : (serial : ℕ) (state : State) → IsFitState state → IsFitState (renew serial state)
fit_renew serial state at = record {
  graph = at.graph;
  whole = at.whole;
  queues = fit_change serial (with_last state.moment) (λ s f. f) state.sessions at.queues;
  names = at.names;
}

fit_found : (p : Session → Bool) (sessions : List Session) → AllByRecursion HasFitQueue sessions → IfSome (find p sessions) HasFitQueue
fit_found p [] all = tt
fit_found p (s ∷ sessions) all = elim (cases_Bool (p s)) [ inl e ↦ rw e all.0 | inr e ↦ rw e (fit_found p sessions all.1) ]

fit_advance : (moment : ℕ) (state : State) → IsFitState state → IsFitState (advance moment state)
fit_advance moment state at = record { graph = at.graph; whole = at.whole; queues = at.queues; names = at.names }

-- ---- 3. notes, and subscribes

module _ (by : Authorship) (name : IsClientName by.client) where
  fit_elements : (item : Item) → IsCanonItem item → (elements : List Metadata) → AllByRecursion IsMetadata elements
      → AreFitNotes (map (note_of by item) elements)
  fit_elements item canon [] f = tt
  fit_elements item canon (m ∷ elements) f = (
    record { item = canon; element = (stamped_is_whole m by.client by.moment Forever f.0 name).sent },
    fit_elements item canon elements f.1,
  )

  fit_op_notes : (op : PublishOp) → IsFitOp op → AreFitNotes (notes_of_op by op)
  fit_op_notes (the_op.Notify item elements) f = fit_elements item f.0 elements f.1
  fit_op_notes (the_op.Update item elements forever) f = tt
  fit_op_notes (the_op.Delete item filter) f = tt

  fit_notes : (ops : List PublishOp) → AllByRecursion IsFitOp ops → AreFitNotes (notes_of by ops)
  fit_notes ops f = all_of_joined IsFitOp (λ n. IsFitEntry (entry_noted n)) (notes_of_op by) fit_op_notes ops f

record IsFitTold (t : Told) : Type 0 where
  pub queue : IsFitQueue t.queue
  pub names : AllByRecursion HasFitName t.standing

fit_dropped : (serial : ℕ) (name : List ℕ) (t : Told) → IsFitTold t → IsFitTold (drop_name serial name t)
fit_dropped serial name t at = record {
  queue = all_filter IsFitPollItem (λ item. not (is_named name item)) t.queue at.queue;
  names = all_filter HasFitName (λ x. not (is_of_name serial name x)) t.standing at.names;
}

fit_put : (x : Standing) → HasFitName x → (standing : List Standing) → AllByRecursion HasFitName standing
    → AllByRecursion HasFitName (put standing_order x standing)
fit_put x name standing all =
    all_around HasFitName (filter (λ y. is_lt (standing_order y x)) standing) x (filter (λ y. is_gt (standing_order y x)) standing)
    (all_filter HasFitName (λ y. is_lt (standing_order y x)) standing all) name
    (all_filter HasFitName (λ y. is_gt (standing_order y x)) standing all)

next_told : (f : Told → Option Told) (o : Option Told) → ((t : Told) → IsFitTold t → IfSome (f t) IsFitTold) → IfSome o IsFitTold
    → IfSome (option_and_then f o) IsFitTold
next_told f None h at = tt
next_told f (Some t) h at = h t at

module _ (rows : List Attachment) (graph : IsGraph rows) (whole : AreWhole rows) (serial : ℕ) where
  fit_begun : (name : List ℕ) (s : Search) → IsCharacters name → (t : Told) → IsFitTold t
      → IsFitTold (begin_name rows serial name s t)
  fit_begun name s fit t at = elim (cases_Bool (is_too_big rows s)) [
    | inl e ↦ rw e (record {
      queue = both_all IsFitPollItem t.queue (too_big_item name rows s ∷ []) at.queue
          ((fit, limit_characters (fresh_size rows s) s.max_size), tt);
      names = at.names;
    })
    | inr e ↦ rw e (record {
      queue = both_all IsFitPollItem t.queue (the_item.Search name (fresh rows s) ∷ []) at.queue
          ((fit, fit_fresh rows graph whole s), tt);
      names = fit_put (record { serial = serial; name = name; search = s }) fit t.standing at.names;
    })
  ]

  fit_op : (op : SubscribeOp) → IsFitSubscribeOp op → (t : Told) → IsFitTold t → IfSome (subscribe_op rows serial op t) IsFitTold
  fit_op (Update name s) f t at = elim (cases_Bool (is_full_for serial name t.standing)) [
    | inl e ↦ rw e tt
    | inr e ↦ rw e (fit_begun name s f.0 (drop_name serial name t) (fit_dropped serial name t at))
  ]
  fit_op (Delete name) f t at = fit_dropped serial name t at

  fit_ops : (ops : List SubscribeOp) → AllByRecursion IsFitSubscribeOp ops → (t : Told) → IsFitTold t
      → IfSome (subscribe_ops rows serial ops t) IsFitTold
  fit_ops [] f t at = at
  fit_ops (op ∷ ops) f t at =
      next_told (subscribe_ops rows serial ops) (subscribe_op rows serial op t) (λ u told. fit_ops ops f.1 u told) (fit_op op f.0 t at)

-- ---- 4. the cases of the step

module _ (graph_retracted : (who : Who) (rows : List Attachment) → IsGraph rows → IsGraph (retract who rows))
    (whole_retracted : (who : Who) (rows : List Attachment) → AreWhole rows → AreWhole (retract who rows))
    (graph_applied : (rows : List Attachment) (by : Authorship) (ops : List PublishOp) → AllByRecursion IsFitOp ops → IsGraph rows
    → IsGraph (apply rows by ops))
    (whole_applied : (rows : List Attachment) (by : Authorship) (ops : List PublishOp) → IsClientName by.client
    → AllByRecursion IsFitOp ops → AreWhole rows → AreWhole (apply rows by ops)) where
  fit_retracted : (who : Who) (state : State) → IsFitState state → (rows : List Attachment) → IsGraph rows → AreWhole rows
      → IsFitState (tell (retract who rows) [] state)
  fit_retracted who state at rows graph whole =
      fit_tell (retract who rows) [] state at (graph_retracted who rows graph) (whole_retracted who rows whole) tt

  fit_end : (serials : List ℕ) (state : State) → IsFitState state → IsFitState (end_some serials state)
  fit_end [] state at = at
  fit_end (serial ∷ serials) state at =
      fit_overflow _
      (fit_retracted (Sessions (serial ∷ serials)) (drop_sessions (serial ∷ serials) state) (fit_drop (serial ∷ serials) state at)
      state.graph at.graph at.whole)

  fit_former : (o : Option Session) (state : State) → IsFitState state → IsFitState (end_former o state)
  fit_former None state at = at
  fit_former (Some s) state at = fit_end (s.serial ∷ []) state at

  fit_in_session : (state : State) (client : List ℕ) (accept : Session → State × Answer) (o : Option Session) → IsFitState state
      → IfSome o HasFitQueue → ((s : Session) → HasFitQueue s → is_same_text s.client client ≡ true → IsFitStep (accept s))
      → IsFitStep (in_session state client o accept)
  fit_in_session state client accept None at queue f = (at, code_characters InvalidSessionID)
  fit_in_session state client accept (Some s) at queue f = elim (cases_Bool (is_same_text s.client client)) [
    | inl e ↦ rw e (f s queue e)
    | inr e ↦ rw e (at, code_characters AccessDenied)
  ]

  fit_begin : (client : List ℕ) (random : ℕ) (limit : Option ℕ) (state : State) → IsFitState state
      → IsFitState (begin_session client random limit state)
  fit_begin client random limit state at = record {
    graph = at.graph;
    whole = at.whole;
    queues = both_all HasFitQueue state.sessions (next_session state client random limit ∷ []) at.queues (tt, tt);
    names = at.names;
  }

  fit_new : (state : State) (client : List ℕ) (random : ℕ) (limit : Option ℕ) → IsClientName client → IsFitState state
      → IsFitStep (new_session state client random limit)
  fit_new state client random limit name at = elim (cases_Bool (is_full state client)) [
    | inl e ↦ rw e (at, code_characters SystemError)
    | inr e ↦ rw e (
      fit_begin client random limit (end_former (session_of_client client state.sessions) state)
          (fit_former (session_of_client client state.sessions) state at),
      (id_characters _ random, client_characters client name, limit_word limit),
    )
  ]

  fit_publish : (state : State) (ops : List PublishOp) → AllByRecursion IsFitOp ops → (s : Session) → IsClientName s.client
      → IsFitState state → IsFitStep (publish state ops s)
  fit_publish state ops fit s name at =
      let by = author_in state s in (
        fit_renew s.serial _
            (fit_overflow _
            (fit_tell (apply state.graph by ops) (notes_of by ops) state at (graph_applied state.graph by ops fit at.graph)
            (whole_applied state.graph by ops name fit at.whole) (fit_notes by name ops fit))),
        tt,
      )

  fit_purge : (state : State) (publisher : List ℕ) (s : Session) → IsFitState state → IsFitStep (purge state publisher s)
  fit_purge state publisher s at = elim (cases_Bool (is_same_text publisher s.client)) [
    | inl e ↦ rw e (
      fit_renew s.serial _ (fit_overflow _ (fit_retracted (Publisher publisher) state at state.graph at.graph at.whole)),
      tt,
    )
    | inr e ↦ rw e (at, code_characters AccessDenied)
  ]

  fit_search : (state : State) (asked : Search) (s : Session) → IsFitState state → IsFitStep (search state asked s)
  fit_search state asked s at = elim (cases_Bool (is_too_big state.graph asked)) [
    | inl e ↦ rw e (at, limit_characters (fresh_size state.graph asked) asked.max_size)
    | inr e ↦ rw e (fit_renew s.serial state at, fit_fresh state.graph at.graph at.whole asked)
  ]

  fit_subscribed : (state : State) (s : Session) (o : Option Told) → IfSome o IsFitTold → IsFitState state
      → IsFitStep (answer_subscribed state s o)
  fit_subscribed state s None told at = (at, code_characters SystemError)
  fit_subscribed state s (Some t) told at = (
    fit_renew s.serial _
        (fit_overflow _
        (record {
          graph = at.graph;
          whole = at.whole;
          queues = fit_change s.serial (λ (x : Session). record x { queue = t.queue }) (λ x f. told.queue) state.sessions at.queues;
          names = told.names;
        })),
    tt,
  )

  fit_first : (again : Bool) (serial : ℕ) (state : State) → IsFitState state → IsFitState (renew_first again serial state)
  fit_first true serial state at = at
  fit_first false serial state at = fit_renew serial state at

  fit_queue : (state : State) (again : Bool) (s : Session) (queue : List PollItem) → IsFitQueue queue → IsFitState state
      → IsFitStep (poll_queue state again s queue)
  fit_queue state again s [] f at = (fit_first again s.serial state at, tt)
  fit_queue state again s (item ∷ items) f at = (
    fit_first again s.serial _
        (record {
          graph = at.graph;
          whole = at.whole;
          queues = fit_change s.serial without_items (λ x g. tt) state.sessions at.queues;
          names = at.names;
        }),
    f,
  )

  fit_poll : (state : State) (client : List ℕ) (again : Bool) (o : Option Session) → IfSome o HasFitQueue → IsFitState state
      → IsFitStep (poll state client again o)
  fit_poll state client true None queue at = (at, tt)
  fit_poll state client true (Some s) queue at =
      fit_in_session state client (poll_in state true) (Some s) at queue (λ x f own. fit_queue state true x x.queue f at)
  fit_poll state client false o queue at =
      fit_in_session state client (poll_in state false) o at queue (λ x f own. fit_queue state false x x.queue f at)

  fit_lost : (state : State) (client : List ℕ) (o : Option Session) → IsFitState state → IsFitStep (lose state client o)
  fit_lost state client None at = (at, tt)
  fit_lost state client (Some s) at = elim (cases_Bool (is_same_text s.client client)) [
    | inl e ↦ rw e (fit_end (s.serial ∷ []) state at, tt)
    | inr e ↦ rw e (at, tt)
  ]

  module _ (state : State) (event : Event) (name : IsClientName event.client) (at : IsFitState state) where
    in_own : (id : List ℕ) (accept : Session → State × Answer)
        → ((s : Session) → HasFitQueue s → is_same_text s.client event.client ≡ true → IsFitStep (accept s))
        → IsFitStep (in_session state event.client (session_with_id id state.sessions) accept)
    in_own id accept f =
        fit_in_session state event.client accept (session_with_id id state.sessions) at
        (fit_found (λ s. is_same_text s.id id) state.sessions at.queues) f

    own_name : (s : Session) → is_same_text s.client event.client ≡ true → IsClientName s.client
    own_name s own = subst IsClientName (sym (text_is s.client event.client own)) name

    fit_ask : (ask : Ask) → IsFitAsk ask → IsFitStep (step_ask state event ask)
    fit_ask (Lost id) fit = fit_lost state event.client (session_with_id id state.sessions) at
    fit_ask (Request (the_request.NewSession limit)) fit = fit_new state event.client event.random limit name at
    fit_ask (Request (the_request.RenewSession id)) fit = in_own id (renew_session state) (λ s f own. (fit_renew s.serial state at, tt))
    fit_ask (Request (the_request.EndSession id)) fit = in_own id (end_session state) (λ s f own. (fit_end (s.serial ∷ []) state at, tt))
    fit_ask (Request (the_request.Publish id ops)) fit =
        in_own id (publish state ops) (λ s f own. fit_publish state ops fit.1 s (own_name s own) at)
    fit_ask (Request (the_request.Search id asked)) fit = in_own id (search state asked) (λ s f own. fit_search state asked s at)
    fit_ask (Request (the_request.Subscribe id ops)) fit =
        in_own id (subscribe state ops)
        (λ s f own. fit_subscribed state s (subscribe_ops state.graph s.serial ops (record { queue = s.queue; standing = state.standing }))
        (fit_ops state.graph at.graph at.whole s.serial ops fit.1 (record { queue = s.queue; standing = state.standing })
        (record { queue = f; names = at.names })) at)
    fit_ask (Request (the_request.Poll id)) fit =
        fit_poll state event.client event.again (session_with_id id state.sessions)
        (fit_found (λ s. is_same_text s.id id) state.sessions at.queues) at
    fit_ask (Request (the_request.PurgePublisher id publisher)) fit =
        in_own id (purge state publisher) (λ s f own. fit_purge state publisher s at)

  pub fit_step : (state : State) (event : Event) → IsClientName event.client → IsFitAsk event.ask → IsFitState state
      → IsFitStep (step state event)
  fit_step state event name fit at =
      fit_ask (expire (advance event.moment state)) event name (fit_end _ (advance event.moment state) (fit_advance event.moment state at))
      event.ask fit

  pub fit_history : (state : State) (history : History) → IsFitState state → AreFit history → LegalFrom state history
      → AreFitAnswers history
  fit_history state [] at fit legal = tt
  fit_history state (e ∷ history) at fit legal =
      let next = fit_step state e.0 fit.0.client fit.0.ask at in
      (subst IsFitAnswer (sym legal.0) next.1, fit_history (step state e.0).0 history next.0 fit.1 legal.1)
