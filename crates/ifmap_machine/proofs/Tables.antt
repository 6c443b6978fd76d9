-- What holds of the sessions in every state (`IsTable`), kept by each case of the step.
-- 1. A function of each session that keeps its serial, id and client keeps it (`mapped_table`);
--    telling and overflowing are such (`tell_table`, `overflow_table`).
-- 2. Some sessions end (`dropped_table`), so expired ones and those named do (`expired_table`).
-- 3. One begins, where the client has none and there is room (`begun_tabled`, `new_table`).
-- 4. So the step keeps it, case by case (`step_table`), and each event does (`event_table`).
-- 5. It holds in the opening state (`opening_table`), so after each history (`table_after`).
use Rattle.std.proofs.Common.{◌≡◌, refl, sym, ◌∙◌, ap, subst, ℕ, suc, ◌+◌, ◌-◌, ◌^◌, ◌<◌, ◌≤◌, ◌==◌, ◌&&◌, true, false}
use Rattle.std.proofs.Common.{List, [], ◌∷◌, length, map, Option, None, Some, inl, inr, nat_le, is_none, arith}
use Rattle.std.proofs.lemmas.Bool.{and_cases, both_ways, cases_Bool, or_parts}
use Rattle.std.proofs.lemmas.Bool.Decides.{nat_tests}
use Rattle.std.proofs.lemmas.List.Kept.{IsStrictlySortedBy-filter}
use Rattle.std.specs.List.{AllByRecursion, IsDistinct}
use Rattle.std.specs.List.Sorted.{IsStrictlySortedBy}
use Rattle.std.specs.declared.cmp.Ordering.TheVariants.{Less}
use Rattle.ifmap_lemmas.specs.Filters.{all_filter, all_weaker, filter_shorter}
use Rattle.ifmap_lemmas.specs.Members.{map_of_all}
use Rattle.ifmap_machine.specs.declared.events.Ask.{Ask}
use Rattle.ifmap_machine.specs.Ending.{drop_sessions, end_former, end_sessions, end_some, expire}
use Rattle.ifmap_machine.specs.Events.{Event}
use Rattle.ifmap_machine.specs.Legal.{History, state_from}
use Rattle.ifmap_machine.specs.State.{State, advance, opening_state}
use Rattle.ifmap_machine.specs.Step.{answer_subscribed, begin_session, is_full, next_session, renew, step, step_ask, with_told}
use Rattle.ifmap_machine.specs.Subscribing.{Told}
use Rattle.ifmap_machine.specs.Telling.{is_overfull, overflow, overflow_session, tell, tell_session, told_in_session}
use Rattle.ifmap_machine.proofs.Cases.{step_keeps}
use Rattle.ifmap_folds.specs.ifmap_plans.declared.plans.Note.{Note}
use Rattle.ifmap_session.specs.SessionIds.{BeginsWithSerial}
use Rattle.ifmap_session.specs.Sessions.{IsTable, Session, SessionTable, is_same_text, most_sessions, session_of_client, session_order, without_items}
use Rattle.ifmap_session.specs.Sessions.{without_sessions}
use Rattle.ifmap_session.specs.laws.TableLaws.{KeepsIdAndClient, begun_table, changed_table, client_freed, id_begins, one_fewer, renewed_keeps, is_left}
use Rattle.ifmap_lemmas.specs.Keyed.{keys_filter}
use Rattle.ifmap_publish.specs.ifmap_view.declared.attachments.Attachment.{Attachment}

-- the sessions of a state, as a table without room
abbrev pub table_of : State → SessionTable
table_of state = record { counter = state.counter; live = state.sessions; spare = []; room = 0 }

-- what holds of the sessions in every state
abbrev pub IsTabled : State → Type 0
IsTabled state = IsTable (table_of state)

-- ---- a function of each session

module _ (f : Session → Session) (k : KeepsIdAndClient f) where
  all_mapped : (P Q : Session → Type 0) → ((s : Session) → P s → Q (f s)) → (live : List Session) → AllByRecursion P live
      → AllByRecursion Q (map f live)
  all_mapped P Q g live h = map_of_all Q f live (all_weaker P (λ s. Q (f s)) g live h)

  pub clients_mapped : (live : List Session) → map (λ (s : Session). s.client) (map f live) ≡ map (λ (s : Session). s.client) live
  clients_mapped [] = refl
  clients_mapped (x ∷ live) = rw (k.client x, clients_mapped live) refl

  pub length_mapped : (live : List Session) → length (map f live) ≡ length live
  length_mapped [] = refl
  length_mapped (x ∷ live) = ap (λ m. suc m) (length_mapped live)

  pub none_mapped : (client : List ℕ) (live : List Session) → session_of_client client live ≡ None
      → session_of_client client (map f live) ≡ None
  none_mapped client [] e = refl
  none_mapped client (x ∷ live) e =
      elim (cases_Bool (is_same_text x.client client)) [
        | inl hit ↦ let bad : Some x ≡ None = rw hit at e in cc
        | inr miss ↦ rw (k.client x, miss) (none_mapped client live (rw miss at e))
      ]

  mapped_rising : (live : List Session) → IsStrictlySortedBy session_order live → IsStrictlySortedBy session_order (map f live)
  unfolding IsStrictlySortedBy
  mapped_rising [] up = tt
  mapped_rising (x ∷ live) up = (
    all_mapped (λ z. session_order x z ≡ Less) (λ z. session_order (f x) z ≡ Less)
        (λ z l. rw (k.serial x, k.serial z) l) live up.0,
    mapped_rising live up.1,
  )

  pub mapped_table : (table : SessionTable) → IsTable table → IsTable (record table { live = map f table.live })
  mapped_table table h = record {
    rising = mapped_rising table.live h.rising;
    counted = all_mapped (λ (s : Session). s.serial ≤ table.counter) (λ (s : Session). s.serial ≤ table.counter)
        (λ s le. subst (λ m. m ≤ table.counter) (sym (k.serial s)) le) table.live h.counted;
    small = h.small;
    ids = all_mapped (λ (s : Session). BeginsWithSerial s.serial s.id) (λ (s : Session). BeginsWithSerial s.serial s.id)
        (λ s id. rw (k.serial s, k.id s) id) table.live h.ids;
    apart = subst (IsDistinct is_same_text) (sym (clients_mapped table.live)) h.apart;
    few = subst (λ m. m ≤ most_sessions) (sym (length_mapped table.live)) h.few;
  }

-- telling and overflowing keep serials, ids and clients
pub told_keeps : (before after : List Attachment) (notes : List Note) (state : State)
    → KeepsIdAndClient (λ (s : Session). tell_session (told_in_session before after notes state.standing s.serial) s)
told_keeps before after notes state = record { serial = λ s. refl; id = λ s. refl; client = λ s. refl }

pub overflow_keeps : KeepsIdAndClient overflow_session
overflow_keeps = record {
  serial = λ s. elim (cases_Bool (is_overfull s)) [ inl hit ↦ rw hit refl | inr miss ↦ rw miss refl ];
  id = λ s. elim (cases_Bool (is_overfull s)) [ inl hit ↦ rw hit refl | inr miss ↦ rw miss refl ];
  client = λ s. elim (cases_Bool (is_overfull s)) [ inl hit ↦ rw hit refl | inr miss ↦ rw miss refl ];
}

pub tell_table : (after : List Attachment) (notes : List Note) (state : State) → IsTabled state → IsTabled (tell after notes state)
tell_table after notes state w = mapped_table _ (told_keeps state.graph after notes state) (table_of state) w

pub overflow_table : (state : State) → IsTabled state → IsTabled (overflow state)
overflow_table state w = mapped_table overflow_session overflow_keeps (table_of state) w

-- ---- some sessions end

pub dropped_table : (serials : List ℕ) (table : SessionTable) → IsTable table
    → IsTable (record table { live = without_sessions serials table.live })
dropped_table serials table h = record {
  rising = IsStrictlySortedBy-filter session_order (is_left serials) table.live h.rising;
  counted = all_filter (λ (s : Session). s.serial ≤ table.counter) (is_left serials) table.live h.counted;
  small = h.small;
  ids = all_filter (λ (s : Session). BeginsWithSerial s.serial s.id) (is_left serials) table.live h.ids;
  apart = keys_filter is_same_text (λ (s : Session). s.client) (is_left serials) table.live h.apart;
  few = let less = filter_shorter (is_left serials) table.live in omega (arith, less, h.few);
}

pub ended_table : (serials : List ℕ) (state : State) → IsTabled state → IsTabled (end_some serials state)
ended_table [] state w = w
ended_table (serial ∷ serials) state w =
    let dropped : IsTabled (drop_sessions (serial ∷ serials) state) = dropped_table (serial ∷ serials) (table_of state) w in
    overflow_table (end_sessions (serial ∷ serials) state) (mapped_table _
    (told_keeps state.graph _ [] (drop_sessions (serial ∷ serials) state)) (table_of (drop_sessions (serial ∷ serials) state)) dropped)

pub expired_table : (state : State) → IsTabled state → IsTabled (expire state)
expired_table state w = ended_table _ state w

-- the client of a session that ended has none, and fewer are left
former_freed : (state : State) (client : List ℕ) (s : Session) → IsTabled state → session_of_client client state.sessions ≡ Some s
    → session_of_client client (end_some (s.serial ∷ []) state).sessions ≡ None
former_freed state client s w e =
    none_mapped overflow_session overflow_keeps client _ (none_mapped _
    (told_keeps state.graph _ [] (drop_sessions (s.serial ∷ []) state)) client _ (client_freed state.sessions client s w.apart e))

fewer_left : (state : State) (client : List ℕ) (s : Session) → session_of_client client state.sessions ≡ Some s
    → length (end_some (s.serial ∷ []) state).sessions < length state.sessions
fewer_left state client s e =
    let less = one_fewer state.sessions client s e in
    let one = length_mapped _ (told_keeps state.graph _ [] (drop_sessions (s.serial ∷ []) state))
    (without_sessions (s.serial ∷ []) state.sessions) in
    let two = length_mapped overflow_session overflow_keeps (end_sessions (s.serial ∷ []) state).sessions in
    subst (λ n. n < length state.sessions) (sym (two ∙ one)) less

-- ---- the cases of the step

-- where a client that has no session can be given one, there is room
has_room : (state : State) (client : List ℕ) → is_full state client ≡ false → session_of_client client state.sessions ≡ None
    → length state.sessions < most_sessions
has_room state client free none =
    let parts = or_parts (nat_le most_sessions (length state.sessions) && is_none (session_of_client client state.sessions))
    (state.counter == 2 ^ 64 - 1) free in
    elim (and_cases (nat_le most_sessions (length state.sessions)) (is_none (session_of_client client state.sessions)) parts.0) [
      | inl low ↦ grind (arith, nat_tests, low)
      | inr some ↦ let bad : is_none (session_of_client client state.sessions) ≡ true = rw none refl in
          absurd (both_ways (is_none (session_of_client client state.sessions)) some bad)
    ]

-- where no session is refused, a serial is left
serial_is_left : (state : State) (client : List ℕ) → IsTabled state → is_full state client ≡ false → state.counter < 2 ^ 64 - 1
serial_is_left state client w free =
    let parts = or_parts (nat_le most_sessions (length state.sessions) && is_none (session_of_client client state.sessions))
    (state.counter == 2 ^ 64 - 1) free in
    let small : state.counter < 2 ^ 64 = w.small in
    grind (arith, nat_tests, parts.1, small)

begun_tabled : (client : List ℕ) (random : ℕ) (limit : Option ℕ) (state : State) → IsTabled state → state.counter < 2 ^ 64 - 1
    → session_of_client client state.sessions ≡ None → length state.sessions < most_sessions
    → IsTabled (begin_session client random limit state)
begun_tabled client random limit state w small none room =
    begun_table (table_of state) (next_session state client random limit) w refl (id_begins (state.counter + 1) random) small none room

new_table : (state : State) (client : List ℕ) (random : ℕ) (limit : Option ℕ) (o : Option Session) → IsTabled state
    → is_full state client ≡ false → session_of_client client state.sessions ≡ o
    → IsTabled (begin_session client random limit (end_former o state))
new_table state client random limit None w free e =
    begun_tabled client random limit state w (serial_is_left state client w free) e (has_room state client free e)
new_table state client random limit (Some s) w free e =
    let less = fewer_left state client s e in
    begun_tabled client random limit (end_some (s.serial ∷ []) state) (ended_table (s.serial ∷ []) state w)
    (serial_is_left state client w free) (former_freed state client s w e) (omega (arith, less, w.few))

pub renewed_table : (serial : ℕ) (state : State) → IsTabled state → IsTabled (renew serial state)
renewed_table serial state w = changed_table serial _ (renewed_keeps state.moment) (table_of state) w

changed_tell : (serial : ℕ) (after : List Attachment) (notes : List Note) (state : State) → IsTabled state
    → IsTabled (renew serial (overflow (tell after notes state)))
changed_tell serial after notes state w =
    renewed_table serial (overflow (tell after notes state)) (overflow_table (tell after notes state) (tell_table after notes state w))

subscribed_table : (state : State) (s : Session) (o : Option Told) → IsTabled state → IsTabled (answer_subscribed state s o).0
subscribed_table state s None w = w
subscribed_table state s (Some t) w =
    let told : IsTabled (with_told s.serial t state) = changed_table s.serial (λ (x : Session). record x { queue = t.queue })
    (record { serial = λ x. refl; id = λ x. refl; client = λ x. refl }) (table_of state) w in
    renewed_table s.serial (overflow (with_told s.serial t state)) (overflow_table (with_told s.serial t state) told)

pub step_table : (state : State) (event : Event) (ask : Ask) → IsTabled state → IsTabled (step_ask state event ask).0
step_table state event ask w = step_keeps IsTabled state event ask (record {
  renewed = renewed_table;
  empty = λ s. changed_table s.serial without_items (record { serial = λ x. refl; id = λ x. refl; client = λ x. refl })
      (table_of state) w;
  ended = λ s. ended_table (s.serial ∷ []) state w;
  begun = λ limit free. new_table state event.client event.random limit (session_of_client event.client state.sessions) w free refl;
  published = λ id ops is s found own. changed_tell s.serial _ _ state w;
  subscribed = λ ops s. subscribed_table state s _ w;
  taken = λ publisher s. changed_tell s.serial _ [] state w;
}) w

pub event_table : (state : State) (event : Event) → IsTabled state → IsTabled (step state event).0
event_table state event w = step_table (expire (advance event.moment state)) event event.ask
    (expired_table (advance event.moment state) w)

pub opening_table : (ttl : ℕ) → IsTabled (opening_state ttl)
unfolding IsStrictlySortedBy IsDistinct
opening_table ttl = record { rising = tt; counted = tt; small = omega arith; ids = tt; apart = tt; few = omega arith }

pub table_after : (state : State) (history : History) → IsTabled state → IsTabled (state_from state history)
table_after state [] w = w
table_after state (e ∷ history) w = table_after (step state e.0).0 history (event_table state e.0 w)
