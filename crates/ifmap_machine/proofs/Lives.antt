-- What is to stay as long as a session belongs to a live session of the client that published it.
-- 1. One life outlasts what is done to other sessions (`life_mapped`, `life_dropped`,
--    `life_begun`).
-- 2. So all do: where sessions change (`lives_mapped`), where rows go (`lives_filter`), where
--    sessions end with what they published (`lives_left`), and where a row comes
--    (`lives_attached`).
-- 3. A publish gives what it attaches the life of its own session (`apply_lives`).
-- 4. Each case of the step keeps it (`step_lives`), and each event does (`event_lives`).
-- 5. So it holds after each history (`lives_after`).
use Rattle.std.proofs.Common.{◌≡◌, refl, sym, ◌∙◌, ap, subst, ℕ, ◌==◌, Bool, true, false, not, List, [], ◌∷◌, ◌++◌, map, Option, None, Some}
use Rattle.std.proofs.Common.{inl, inr, arith, if◌then◌else◌}
use Rattle.std.proofs.lemmas.Bool.{cases_Bool}
use Rattle.std.proofs.lemmas.Bool.Decides.{nat_tests}
use Rattle.std.specs.List.{AllByRecursion, filter, list_any}
use Rattle.std.specs.Ordering.{is_gt, is_lt}
use Rattle.ifmap_ident.specs.declared.items.Item.{Item}
use Rattle.ifmap_lemmas.specs.Filters.{all_around, all_filter, all_weaker}
use Rattle.ifmap_machine.specs.declared.events.Ask.{Ask}
use Rattle.ifmap_machine.specs.Ending.{drop_sessions, end_former, end_sessions, end_some, expire}
use Rattle.ifmap_machine.specs.Events.{Event}
use Rattle.ifmap_machine.specs.Legal.{History, state_from}
use Rattle.ifmap_machine.specs.Lives.{AllLive, IsLifeFor}
use Rattle.ifmap_machine.specs.State.{State, advance, opening_state}
use Rattle.ifmap_machine.specs.Step.{answer_subscribed, author_in, begin_session, next_session, renew, step, step_ask, with_told}
use Rattle.ifmap_machine.specs.Subscribing.{Told}
use Rattle.ifmap_machine.specs.Telling.{overflow, overflow_session, tell}
use Rattle.ifmap_machine.proofs.Cases.{former_keeps, step_keeps}
use Rattle.ifmap_machine.proofs.Tables.{IsTabled, event_table, expired_table, opening_table, overflow_keeps, told_keeps}
use Rattle.ifmap_meta.specs.declared.metadata.Metadata.{Metadata}
use Rattle.ifmap_meta.specs.declared.stored.Life.{Life}
use Rattle.ifmap_meta.specs.declared.stored.Life.TheVariants as the_life
use Rattle.ifmap_folds.specs.ifmap_plans.declared.plans.Note.{Note}
use Rattle.ifmap_publish.specs.Apply.{Authorship, apply, apply_op, attach, attachment_of, life_of, update}
use Rattle.ifmap_publish.specs.Notes.{notes_of}
use Rattle.ifmap_publish.specs.declared.who.Who.TheVariants.{Sessions, Publisher}
use Rattle.ifmap_publish.specs.Retract.{ends_with, retract}
use Rattle.ifmap_publish.specs.ifmap_requests.declared.publish_ops.PublishOp.{PublishOp}
use Rattle.ifmap_publish.specs.ifmap_requests.declared.publish_ops.PublishOp.TheVariants.{Update, Notify, Delete}
use Rattle.ifmap_replies.specs.ifmap_search.declared.results.PollItem.{PollItem}
use Rattle.ifmap_session.specs.Sessions.{Session, is_same_text, session_of_client, with_last}
use Rattle.ifmap_session.specs.Sessions.{session_with_serial, without_sessions}
use Rattle.ifmap_session.specs.laws.TableLaws.{KeepsIdAndClient, found_by_serial, found_beside_begun}
use Rattle.ifmap_session.specs.laws.TextLaws.{find_kept}
use Rattle.ifmap_publish.specs.ifmap_view.declared.attachments.Attachment.{Attachment}
use Rattle.ifmap_publish.specs.ifmap_view.Attachments.{attachment_order, of_one_key}

-- ---- one life

found_mapped : (f : Session → Session) → KeepsIdAndClient f → (n : ℕ) (live : List Session) (s : Session) → session_with_serial n live ≡
    Some s
    → session_with_serial n (map f live) ≡ Some (f s)
found_mapped f k n [] s e = cc
found_mapped f k n (x ∷ live) s e =
    elim (cases_Bool (x.serial == n)) [
      | inl hit ↦
          let now : ((f x).serial == n) ≡ true = ap (λ m. m == n) (k.serial x) ∙ hit in
          let same : x ≡ s = cc (rw hit at e) in
          rw now (ap (λ t. Some (f t)) same)
      | inr miss ↦
          let now : ((f x).serial == n) ≡ false = ap (λ m. m == n) (k.serial x) ∙ miss in
          rw now (found_mapped f k n live s (rw miss at e))
    ]

life_mapped : (f : Session → Session) → KeepsIdAndClient f → (sessions : List Session) (publisher : List ℕ) (life : Life)
    → IsLifeFor sessions publisher life → IsLifeFor (map f sessions) publisher life
life_mapped f k sessions publisher (the_life.Session n) h = (f h.0, found_mapped f k n sessions h.0 h.1, k.client h.0 ∙ h.2)
life_mapped f k sessions publisher the_life.Forever h = tt

-- a session that does not end is found still
passes_drop : (serials : List ℕ) (n m : ℕ) → (m == n) ≡ true → list_any (λ k. k == n) serials ≡ false
    → list_any (λ k. k == m) serials ≡ false
passes_drop serials n m same none =
    let is : m ≡ n = grind (arith, nat_tests, same) in subst (λ j. list_any (λ k. k == j) serials ≡ false) (sym is) none

life_dropped : (serials : List ℕ) (sessions : List Session) (publisher : List ℕ) (life : Life) → ends_with serials life ≡ false
    → IsLifeFor sessions publisher life → IsLifeFor (without_sessions serials sessions) publisher life
life_dropped serials sessions publisher (the_life.Session n) other h = (
  h.0,
  find_kept (λ (t : Session). t.serial == n) (λ (t : Session). not (list_any (λ k. k == t.serial) serials))
      (λ t is. ap not (passes_drop serials n t.serial is other)) sessions h.0 h.1,
  h.2,
)
life_dropped serials sessions publisher the_life.Forever other h = tt

life_begun : (sessions : List Session) (s : Session) (publisher : List ℕ) (life : Life) → IsLifeFor sessions publisher life
    → IsLifeFor (sessions ++ s ∷ []) publisher life
life_begun sessions s publisher (the_life.Session n) h = (h.0, found_beside_begun n sessions s h.0 h.1, h.2)
life_begun sessions s publisher the_life.Forever h = tt

-- ---- all of them

abbrev Live : List Session → List Attachment → Type 0
Live sessions rows = AllByRecursion (λ (a : Attachment). IsLifeFor sessions a.stored.publisher a.stored.life) rows

lives_mapped : (f : Session → Session) → KeepsIdAndClient f → (sessions : List Session) (rows : List Attachment) → Live sessions rows
    → Live (map f sessions) rows
lives_mapped f k sessions rows w =
    all_weaker (λ (a : Attachment). IsLifeFor sessions a.stored.publisher a.stored.life)
    (λ (a : Attachment). IsLifeFor (map f sessions) a.stored.publisher a.stored.life)
    (λ a h. life_mapped f k sessions a.stored.publisher a.stored.life h) rows w

lives_filter : (p : Attachment → Bool) (sessions : List Session) (rows : List Attachment) → Live sessions rows
    → Live sessions (filter p rows)
lives_filter p sessions rows w = all_filter (λ (a : Attachment). IsLifeFor sessions a.stored.publisher a.stored.life) p rows w

-- what is left where sessions end
lives_left : (serials : List ℕ) (sessions : List Session) (rows : List Attachment) → Live sessions rows
    → Live (without_sessions serials sessions) (retract (Sessions serials) rows)
lives_left serials sessions [] w = tt
lives_left serials sessions (a ∷ rows) w =
    elim (cases_Bool (ends_with serials a.stored.life)) [
      | inl goes ↦ rw goes (lives_left serials sessions rows w.1)
      | inr stays ↦ rw stays (
        life_dropped serials sessions a.stored.publisher a.stored.life stays w.0,
        lives_left serials sessions rows w.1,
      )
    ]

lives_attached : (sessions : List Session) (rows : List Attachment) (a : Attachment)
    → IsLifeFor sessions a.stored.publisher a.stored.life → Live sessions rows → Live sessions (attach rows a)
lives_attached sessions rows a own w =
    let kept : List Attachment = filter (λ b. not (of_one_key a b)) rows in
    let left = lives_filter (λ b. not (of_one_key a b)) sessions rows w in
    all_around (λ (b : Attachment). IsLifeFor sessions b.stored.publisher b.stored.life)
    (filter (λ b. is_lt (attachment_order b a)) kept) a (filter (λ b. is_gt (attachment_order b a)) kept)
    (lives_filter (λ b. is_lt (attachment_order b a)) sessions kept left) own
    (lives_filter (λ b. is_gt (attachment_order b a)) sessions kept left)

-- ---- a publish

its_life : (sessions : List Session) (by : Authorship) (forever : Bool)
    → ((s : Session) × (session_with_serial by.serial sessions ≡ Some s) × (s.client ≡ by.client))
    → IsLifeFor sessions by.client (life_of by.serial forever)
its_life sessions by true h = tt
its_life sessions by false h = h

module _ (sessions : List Session) (by : Authorship) (author : (s : Session) × (session_with_serial by.serial sessions ≡ Some s) × (s.client
    ≡ by.client)) where
  update_lives : (item : Item) (forever : Bool) (elements : List Metadata) (rows : List Attachment) → Live sessions rows
      → Live sessions (update rows by item forever elements)
  update_lives item forever [] rows w = w
  update_lives item forever (m ∷ elements) rows w =
      update_lives item forever elements (attach rows (attachment_of by item forever m))
      (lives_attached sessions rows (attachment_of by item forever m) (its_life sessions by forever author) w)

  op_lives : (op : PublishOp) (rows : List Attachment) → Live sessions rows → Live sessions (apply_op rows by op)
  op_lives (Update item elements forever) rows w = update_lives item forever elements rows w
  op_lives (Notify item elements) rows w = w
  op_lives (Delete item chosen) rows w = lives_filter _ sessions rows w

  apply_lives : (ops : List PublishOp) (rows : List Attachment) → Live sessions rows → Live sessions (apply rows by ops)
  apply_lives [] rows w = w
  apply_lives (op ∷ ops) rows w = apply_lives ops (apply_op rows by op) (op_lives op rows w)

-- ---- the cases of the step

kept_renewed : (n moment : ℕ) → KeepsIdAndClient (λ (s : Session). if s.serial == n then with_last moment s else s)
kept_renewed n moment = record {
  serial = λ s. elim (cases_Bool (s.serial == n)) [ inl h ↦ rw h refl | inr h ↦ rw h refl ];
  id = λ s. elim (cases_Bool (s.serial == n)) [ inl h ↦ rw h refl | inr h ↦ rw h refl ];
  client = λ s. elim (cases_Bool (s.serial == n)) [ inl h ↦ rw h refl | inr h ↦ rw h refl ];
}

kept_queued : (n : ℕ) (queue : List PollItem) → KeepsIdAndClient (λ (s : Session). if s.serial == n then record s { queue = queue } else s)
kept_queued n queue = record {
  serial = λ s. elim (cases_Bool (s.serial == n)) [ inl h ↦ rw h refl | inr h ↦ rw h refl ];
  id = λ s. elim (cases_Bool (s.serial == n)) [ inl h ↦ rw h refl | inr h ↦ rw h refl ];
  client = λ s. elim (cases_Bool (s.serial == n)) [ inl h ↦ rw h refl | inr h ↦ rw h refl ];
}

renewed_lives : (n : ℕ) (state : State) → AllLive state → AllLive (renew n state)
renewed_lives n state w = lives_mapped _ (kept_renewed n state.moment) state.sessions state.graph w

overflow_lives : (state : State) → AllLive state → AllLive (overflow state)
overflow_lives state w = lives_mapped overflow_session overflow_keeps state.sessions state.graph w

tell_lives : (after : List Attachment) (notes : List Note) (state : State) → Live state.sessions after → AllLive (tell after notes state)
tell_lives after notes state w = lives_mapped _ (told_keeps state.graph after notes state) state.sessions after w

pub ended_lives : (serials : List ℕ) (state : State) → AllLive state → AllLive (end_some serials state)
ended_lives [] state w = w
ended_lives (serial ∷ serials) state w =
    overflow_lives (end_sessions (serial ∷ serials) state)
    (tell_lives (retract (Sessions (serial ∷ serials)) state.graph) [] (drop_sessions (serial ∷ serials) state)
    (lives_left (serial ∷ serials) state.sessions state.graph w))

begun_lives : (client : List ℕ) (random : ℕ) (limit : Option ℕ) (state : State) → AllLive state
    → AllLive (begin_session client random limit state)
begun_lives client random limit state w =
    all_weaker (λ (a : Attachment). IsLifeFor state.sessions a.stored.publisher a.stored.life)
    (λ (a : Attachment). IsLifeFor (state.sessions ++ next_session state client random limit ∷ []) a.stored.publisher a.stored.life)
    (λ a h. life_begun state.sessions (next_session state client random limit) a.stored.publisher a.stored.life h) state.graph w

changed_lives : (n : ℕ) (after : List Attachment) (notes : List Note) (state : State) → Live state.sessions after
    → AllLive (renew n (overflow (tell after notes state)))
changed_lives n after notes state w =
    renewed_lives n (overflow (tell after notes state)) (overflow_lives (tell after notes state) (tell_lives after notes state w))

subscribed_lives : (state : State) (s : Session) (o : Option Told) → AllLive state → AllLive (answer_subscribed state s o).0
subscribed_lives state s None w = w
subscribed_lives state s (Some t) w =
    renewed_lives s.serial (overflow (with_told s.serial t state)) (overflow_lives (with_told s.serial t state)
    (lives_mapped _ (kept_queued s.serial t.queue) state.sessions state.graph w))

step_lives : (state : State) (event : Event) (ask : Ask) → IsTabled state → AllLive state → AllLive (step_ask state event ask).0
step_lives state event ask tabled w =
    let ended : (s : Session) → AllLive (end_some (s.serial ∷ []) state) = λ s. ended_lives (s.serial ∷ []) state w in
    step_keeps AllLive state event ask (record {
      renewed = renewed_lives;
      empty = λ s. lives_mapped _ (kept_queued s.serial []) state.sessions state.graph w;
      ended = ended;
      begun = λ limit free.
          begun_lives event.client event.random limit (end_former (session_of_client event.client state.sessions) state)
          (former_keeps AllLive state (session_of_client event.client state.sessions) ended w);
      published = λ id ops is s found own.
          changed_lives s.serial (apply state.graph (author_in state s) ops) (notes_of (author_in state s) ops) state
          (apply_lives state.sessions (author_in state s)
          (s, found_by_serial (λ (t : Session). is_same_text t.id id) state.sessions s tabled.rising found, refl) ops state.graph w);
      subscribed = λ ops s. subscribed_lives state s _ w;
      taken = λ publisher s. changed_lives s.serial (retract (Publisher publisher) state.graph) [] state
          (lives_filter _ state.sessions state.graph w);
    }) w

event_lives : (state : State) (event : Event) → IsTabled state → AllLive state → AllLive (step state event).0
event_lives state event tabled w =
    let now : State = advance event.moment state in
    step_lives (expire now) event event.ask (expired_table now tabled) (ended_lives _ now w)

from_lives : (state : State) (history : History) → IsTabled state → AllLive state → AllLive (state_from state history)
from_lives state [] tabled w = w
from_lives state (e ∷ history) tabled w =
    from_lives (step state e.0).0 history (event_table state e.0 tabled) (event_lives state e.0 tabled w)

pub lives_after : (ttl : ℕ) (history : History) → AllLive (state_from (opening_state ttl) history)
lives_after ttl history = from_lives (opening_state ttl) history (opening_table ttl) tt
