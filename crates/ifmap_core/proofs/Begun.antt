-- How a session begins, in place of the one that its client has.
-- 1. Parts of which the sessions have more room are as ready as before (`ready_with`).
-- 2. Whether the client can be given a session is what the code has tested (`full_is`,
--    `full_where_counted`); where not, that is the answer (`full_leads`).
-- 3. Once the former session is gone there is room, and the client has none (`room_after_former`, `client_free_after_former`).
-- 4. The session that is begun is the next one (`begun_is`), and so is the state it leads to
--    (`leads`).
-- 5. That it can be opened (`can_open`), and so all together: it begins (`begins`).
use Rattle.std.proofs.Common.{◌≡◌, refl, sym, ◌∙◌, ap, subst, ℕ, ◌+◌, ◌-◌, ◌^◌, ◌<◌, ◌≤◌, ◌==◌, ◌&&◌, ◌||◌, Bool, true, false, List, [], ◌∷◌, ◌++◌, length, map, Option, None, Some, is_none, nat_le, min, Result, inl, inr, arith, append-nil}
use Rattle.std.proofs.lemmas.Bool.{cases_Bool, or_parts}
use Rattle.std.proofs.lemmas.Bool.Decides.{nat_tests}
use Rattle.std.proofs.lemmas.List.{length-map}
use Rattle.std.specs.List.{IsDistinct}
use Rattle.std.specs.Option.{IfSome, option_map}
use Rattle.std.specs.Result.{IfOk}
use Rattle.ifmap_subscribes.specs.ifmap_changes.Between.{AreOrdered, AreWithinLimits, Asking, CanEnd, HasNoSubscriptions, IsSoundSoFar, IsSteady, rest_of, sessions_left, state_now}
use Rattle.ifmap_subscribes.specs.ifmap_changes.declared.parts.Parts.{Parts}
use Rattle.ifmap_core.specs.Answering.{CanAnswer, GivesCompletion}
use Rattle.ifmap_core.specs.Completions.{CanOpen, LeadsToAnswer, after_former, after_completion, drop_former, open_session, take_former}
use Rattle.ifmap_core.specs.declared.completions.Completion.{Completion}
use Rattle.ifmap_core.specs.declared.completions.Completion.TheVariants.{Say, Open}
use Rattle.ifmap_core.proofs.Cases.{says}
use Rattle.ifmap_core.proofs.Finishing.{client_told, serial_told}
use Rattle.ifmap_core.proofs.Taking.{taken_is}
use Rattle.ifmap_ident.specs.declared.codes.Code.TheVariants.{SystemError}
use Rattle.ifmap_subscribes.specs.ifmap_machine.declared.events.Answer.TheVariants as the_answer
use Rattle.ifmap_subscribes.specs.ifmap_machine.Ending.{end_former}
use Rattle.ifmap_subscribes.specs.ifmap_machine.State.{State}
use Rattle.ifmap_subscribes.specs.ifmap_machine.Step.{begin_session, is_full, new_session, next_session, refusal}
use Rattle.ifmap_subscribes.specs.ifmap_replies.declared.replies.Reply.TheVariants as the_reply
use Rattle.ifmap_session.specs.SessionIds.{session_id}
use Rattle.ifmap_session.specs.Sessions.{IsAsBefore, IsLive, IsTable, Opening, Session, SessionTable, is_same_text, limit_of, most_sessions, session_from, session_of_client, spare_of, without_sessions}
use Rattle.ifmap_session.specs.laws.TableLaws.{client_freed, one_fewer, is_left}
use Rattle.ifmap_lemmas.specs.Keyed.{keys_filter}
use Rattle.ifmap_subscribes.specs.ifmap_tellings.declared.tellings.Pending.{Pending}
use Rattle.ifmap_subscribes.specs.ifmap_tellings.Tellings.{HasSameSessions, IsSized, IsWide, count_told, tell_by}
use Rattle.ifmap_lemmas.specs.Filters.{filter_shorter}

-- ---- parts of which the sessions have more room

module _ (parts : Parts) (table : SessionTable) (b : IsAsBefore parts.sessions table) where
  abbrev pub with_table : Parts
  with_table = record parts { sessions = table }

  pub so_far_with : (a : Asking) (pending : Pending) → state_now a with_table pending ≡ state_now a parts pending
  so_far_with a pending = λ i. record (state_now a parts pending) {
    counter = b.counter i;
    sessions = map (tell_by pending.tellings) (without_sessions a.ended (b.live i));
  }

  pub ready_with : (a : Asking) (pending : Pending) → IsSoundSoFar a parts pending → IsSoundSoFar a with_table pending
  ready_with a pending r =
      let live = sym b.live in
      record {
        ended = subst (CanEnd a.ended) live r.ended;
        ordered = subst (λ l. AreOrdered l parts.standing.items) live r.ordered;
        flags = r.flags;
        kept = r.kept;
        live = λ i x e stays. subst (λ l. IsLive x.serial (without_sessions a.ended l)) live (r.live i x e stays);
        queues = subst AreWithinLimits live r.queues;
        within = subst (λ l. AreWithinLimits (map (tell_by pending.tellings) (without_sessions a.ended l))) live r.within;
        can_tell = λ n t e. let can = r.can_tell n t e in record {
          live = subst (λ l. IsLive n (without_sessions a.ended l)) live can.live;
          room = subst (λ s. count_told t ≤ spare_of n s) (sym b.spare) can.room;
        };
        sized = λ n t e. subst (λ l. IsSized n t l) live (r.sized n t e);
        alone = r.alone;
      }

-- ---- whether a client can be given a session

client_mapped : (f : Session → Session) (c : List ℕ) → ((s : Session) → is_same_text (f s).client c ≡ is_same_text s.client c) →
    (live : List Session)
    → session_of_client c (map f live) ≡ option_map f (session_of_client c live)
client_mapped f c same [] = refl
client_mapped f c same (x ∷ live) =
    elim (cases_Bool (is_same_text x.client c)) [
      | inl hit ↦ rw (same x ∙ hit, hit) refl
      | inr miss ↦ rw (same x ∙ miss, miss) (client_mapped f c same live)
    ]

none_mapped : (f : Session → Session) (o : Option Session) → is_none (option_map f o) ≡ is_none o
none_mapped f None = refl
none_mapped f (Some s) = refl

pub full_is : (a : Asking) (table : SessionTable) (parts : Parts) (pending : Pending) → parts.sessions ≡ table
    → is_full (state_now a parts pending) a.client
    ≡ ((nat_le most_sessions (length (sessions_left a table)) && is_none (session_of_client a.client (sessions_left a table)))
    || (table.counter == 2 ^ 64 - 1))
full_is a table parts pending e =
    let f : Session → Session = tell_by pending.tellings in
    let live : List Session = sessions_left a parts.sessions in
    let count : length (map f live) ≡ length live = length-map live f in
    let none : is_none (session_of_client a.client (map f live)) ≡ is_none (session_of_client a.client live) =
    ap is_none (client_mapped f a.client (client_told pending.tellings a.client) live) ∙ none_mapped f (session_of_client a.client live) in
    (λ i. (nat_le most_sessions (count i) && none i) || (parts.sessions.counter == 2 ^ 64 - 1))
    ∙ ap (λ (t : SessionTable).
    (nat_le most_sessions (length (sessions_left a t)) && is_none (session_of_client a.client (sessions_left a t)))
    || (t.counter == 2 ^ 64 - 1)) e

-- by what was found of both causes
module _ (a : Asking) (table : SessionTable) (parts : Parts) (pending : Pending) (e : parts.sessions ≡ table) (taken : Bool)
    (is : taken ≡ (nat_le most_sessions (length (sessions_left a table))
    && is_none (session_of_client a.client (sessions_left a table)))) where
  pub full_where_taken : taken ≡ true → taken ≡ is_full (state_now a parts pending) a.client
  full_where_taken is_so = is_so ∙ sym (full_is a table parts pending e ∙ ap (λ b. b || (table.counter == 2 ^ 64 - 1)) (sym is ∙ is_so))

  pub full_where_counted : (count : ℕ) → count ≡ table.counter → taken ≡ false
      → (count == 2 ^ 64 - 1) ≡ is_full (state_now a parts pending) a.client
  full_where_counted count counted not_taken =
      ap (λ k. k == 2 ^ 64 - 1) counted
      ∙ sym (full_is a table parts pending e ∙ ap (λ b. b || (table.counter == 2 ^ 64 - 1)) (sym is ∙ not_taken))

pub full_leads : {E : Type 0} (a : Asking) (parts : Parts) (pending : Pending) (random : ℕ) (limit : Option ℕ) (r : Result Completion E)
    → IfOk r (λ q. q ≡ Say (refusal SystemError)) → CanAnswer a parts pending → is_full (state_now a parts pending) a.client ≡ true
    → GivesCompletion r a parts pending (new_session (state_now a parts pending) a.client random limit)
full_leads a parts pending random limit r is can full =
    says a parts pending can.steady can.ready (refusal SystemError) (new_session (state_now a parts pending) a.client random limit)
    (rw full refl) r is

-- ---- a session begins

module _ (table : SessionTable) (client : List ℕ) where
  room_after_former : (live : List Session) (o : Option Session) → session_of_client client live ≡ o → length live ≤ most_sessions
      → (nat_le most_sessions (length live) && is_none o) ≡ false
      → length (after_former (option_map (λ (s : Session). s.serial) o) live) < most_sessions
  room_after_former live None e few free = grind (arith, nat_tests, free)
  room_after_former live (Some s) e few free = let less = one_fewer live client s e in omega (arith, less, few)

  client_free_after_former : (live : List Session) (o : Option Session) → session_of_client client live ≡ o
      → IsDistinct is_same_text (map (λ (s : Session). s.client) live)
      → session_of_client client (after_former (option_map (λ (s : Session). s.serial) o) live) ≡ None
  client_free_after_former live None e apart = e
  client_free_after_former live (Some s) e apart = client_freed live client s apart e

counter_goes_up : (n : ℕ) → n < 2 ^ 64 - 1 → min (n + 1) (2 ^ 64 - 1) ≡ n + 1
counter_goes_up n lt = omega (arith, lt)

wide_limit : (limit : Option ℕ) → IsWide (limit_of limit)
wide_limit None = omega arith
wide_limit (Some asked) = omega arith

-- the session that a client had is gone as the definition says
ended_former : (former : Option ℕ) (o : Option Session) (state : State) → former ≡ option_map (λ (s : Session). s.serial) o
    → drop_former former (take_former former state) ≡ end_former o state
ended_former former None state e = ap (λ f. drop_former f (take_former f state)) e
ended_former former (Some s) state e = ap (λ f. drop_former f (take_former f state)) e ∙ taken_is s.serial state

-- the serial of the session that a client has so far
pub former_so_far : (a : Asking) (parts : Parts) (pending : Pending) → option_map (λ (s : Session). s.serial)
    (session_of_client a.client (sessions_left a parts.sessions))
    ≡ option_map (λ (s : Session). s.serial) (session_of_client a.client (state_now a parts pending).sessions)
former_so_far a parts pending =
    by (session_of_client a.client (sessions_left a parts.sessions))
    ∙ ap (option_map (λ (s : Session). s.serial))
    (sym (client_mapped (tell_by pending.tellings) a.client (client_told pending.tellings a.client) (sessions_left a parts.sessions)))
  where
    by : (o : Option Session) → option_map (λ (s : Session). s.serial) o
        ≡ option_map (λ (s : Session). s.serial) (option_map (tell_by pending.tellings) o)
    by None = refl
    by (Some s) = ap Some (sym (serial_told pending.tellings s))

-- a state with one more session
abbrev with_begun : (ℕ → Session) → State → State
with_begun one state = record state { counter = state.counter + 1; sessions = state.sessions ++ one state.moment ∷ [] }

counter_ended : (o : Option Session) (state : State) → (end_former o state).counter ≡ state.counter
counter_ended None state = refl
counter_ended (Some s) state = refl

open_is : (former : Option ℕ) (opening : Opening) (count : ℕ) (state : State) → open_session former opening count state
    ≡ with_begun (session_from opening count) (drop_former former state)
open_is None opening count state = refl
open_is (Some n) opening count state = refl

module _ (a : Asking) (old new : Parts) (pending after : Pending) (random : ℕ) (limit : Option ℕ) (former : Option ℕ) (opening : Opening)
    (publisher : List ℕ) (count : ℕ) (counted : count ≡ limit_of limit) (owner : opening.client ≡ a.client) (name : publisher ≡ a.client)
    (serial : opening.serial ≡ min (old.sessions.counter + 1) (2 ^ 64 - 1)) (id : opening.id ≡ session_id opening.serial random)
    (next : old.sessions.counter < 2 ^ 64 - 1) where
  number : opening.serial ≡ old.sessions.counter + 1
  number = serial ∙ counter_goes_up old.sessions.counter next

  -- the session that is begun is the next one
  begun_is : (state : State) → state.counter ≡ old.sessions.counter → (moment : ℕ)
      → session_from opening count moment
      ≡ session_from (record { serial = state.counter + 1; id = session_id (state.counter + 1) random; client = a.client })
      (limit_of limit) moment
  begun_is state e moment =
      let n : opening.serial ≡ state.counter + 1 = number ∙ ap (λ k. k + 1) (sym e) in
      let i : opening.id ≡ session_id (state.counter + 1) random = id ∙ ap (λ k. session_id k random) n in
      (λ t. session_from (record { serial = n t; id = i t; client = owner t }) (counted t) moment)

  -- what it leads to
  leads : former ≡ option_map (λ (s : Session). s.serial) (session_of_client a.client (sessions_left a old.sessions))
      → is_full (state_now a old pending) a.client ≡ false → state_now a new after ≡ take_former former (state_now a old pending)
      → after_completion (Open former opening count publisher) (state_now a new after)
      ≡ new_session (state_now a old pending) a.client random limit
  leads same free told =
      let state : State = state_now a old pending in
      let mine : Option Session = session_of_client a.client state.sessions in
      let ended : State = end_former mine state in
      let dropped : drop_former former (state_now a new after) ≡ ended =
      ap (drop_former former) told ∙ ended_former former mine state (same ∙ former_so_far a old pending) in
      let one : session_from opening count ended.moment ≡ next_session ended a.client random limit =
      begun_is ended (counter_ended mine state) ended.moment in
      let id_is : opening.id ≡ session_id (state.counter + 1) random = id ∙ ap (λ k. session_id k random) number in
      let whole : new_session state a.client random limit ≡ (
        begin_session a.client random limit ended,
        the_answer.Reply (the_reply.NewSession (session_id (state.counter + 1) random) a.client (limit_of limit)),
      ) = rw free refl in
      ap (λ (t : State). (t, the_answer.Reply (the_reply.NewSession opening.id publisher count)))
      (open_is former opening count (state_now a new after) ∙ ap (with_begun (session_from opening count)) dropped)
      ∙ (λ i. (
        record ended { counter = ended.counter + 1; sessions = ended.sessions ++ one i ∷ [] },
        the_answer.Reply (the_reply.NewSession (id_is i) (name i) (counted i)),
      ))
      ∙ sym whole

  -- and that it can be done
  can_open : former ≡ option_map (λ (s : Session). s.serial) (session_of_client a.client (sessions_left a old.sessions))
      → is_full (state_now a old pending) a.client ≡ false → (table : SessionTable) → IsTable table → IsAsBefore old.sessions table
      → HasSameSessions table new.sessions → 1 ≤ table.room → IfSome former (λ n. IsLive n (sessions_left a old.sessions))
      → CanOpen former opening count (rest_of a new.sessions)
  can_open same free table whole b h room live =
      let live_is : sessions_left a table ≡ sessions_left a new.sessions = ap (without_sessions a.ended) (sym h.live) in
      let before : sessions_left a old.sessions ≡ sessions_left a table = ap (without_sessions a.ended) (sym b.live) in
      let counter_is : new.sessions.counter ≡ old.sessions.counter = h.counter ∙ b.counter in
      let o : Option Session = session_of_client a.client (sessions_left a table) in
      let same_now : former ≡ option_map (λ (s : Session). s.serial) o =
      same ∙ ap (λ l. option_map (λ (s : Session). s.serial) (session_of_client a.client l)) before in
      let few : length (sessions_left a table) ≤ most_sessions =
      (let less = filter_shorter (is_left a.ended) table.live in let most = whole.few in omega (arith, less, most)) in
      let test : (nat_le most_sessions (length (sessions_left a table)) && is_none o) ≡ false =
      (or_parts _ _ (sym (full_is a table (with_table old table b) pending refl)
      ∙ ap (λ (t : State). is_full t a.client) (so_far_with old table b a pending) ∙ free)).0 in
      record {
        room = let more = h.room in omega (arith, room, more);
        live = subst (λ l. IfSome former (λ n. IsLive n l)) (before ∙ live_is) live;
        none = subst (λ l. session_of_client opening.client (after_former former l) ≡ None) live_is
            (rw (owner, same_now) (client_free_after_former table a.client (sessions_left a table) o refl
            (keys_filter is_same_text (λ (s : Session). s.client) (is_left a.ended) table.live whole.apart)));
        few = subst (λ l. length (after_former former l) < most_sessions) live_is
            (rw same_now (room_after_former table a.client (sessions_left a table) o refl few test));
        counter = subst (λ n. n < 2 ^ 64 - 1) (sym counter_is) next;
        next = number ∙ ap (λ n. n + 1) (sym counter_is);
        wide = subst IsWide (sym counted) (wide_limit limit);
      }

  pub begins : former ≡ option_map (λ (s : Session). s.serial) (session_of_client a.client (sessions_left a old.sessions))
      → is_full (state_now a old pending) a.client ≡ false → (table : SessionTable) → IsTable table → (b : IsAsBefore old.sessions table)
      → HasSameSessions table new.sessions → 1 ≤ table.room → IfSome former (λ n. IsLive n (sessions_left a old.sessions))
      → state_now a new after ≡ take_former former (state_now a (with_table old table b) pending) → IsSteady new.graph new.standing.items
      → IsSoundSoFar a new after → IfSome former (λ n. HasNoSubscriptions n new after)
      → LeadsToAnswer (Open former opening count publisher) a new after (new_session (state_now a old pending) a.client random limit)
  begins same free table whole b h room live told steady ready bare = record {
    can = record {
      steady = subst (IsSteady new.graph) (sym (append-nil new.standing.items)) steady;
      ready = ready;
      can = (can_open same free table whole b h room live, bare);
    };
    leads = leads same free (told ∙ ap (take_former former) (so_far_with old table b a pending));
  }
