-- What holds of parts once what was pending of an event is queued and let go of.
-- 1. Sessions that are told something keep serials and clients (`serial_told`, `live_told`).
-- 2. What was pending can be told, once the expired sessions have ended (`can_tell_rest`).
-- 3. Then the parts are sound but for what is left to do (`would_be`).
-- 4. What is left to do can be done on them (`can_apply`), a session begun and names changed
--    included.
-- 5. The state they are in and the answer are those of the definition (`finish_answers`).
use Rattle.std.proofs.Common.{◌≡◌, ◌≢◌, refl, sym, ◌∙◌, ap, subst, ℕ, ◌+◌, ◌<◌, ◌≤◌, ◌==◌, List, [], ◌∷◌, ◌++◌, length, map, Option, None, Some, arith}
use Rattle.ifmap_subscribes.specs.ifmap_tellings.KeptPlaces.{fewer_kept, kept_all, rising_kept}
use Rattle.std.proofs.lemmas.List.{length-map}
use Rattle.std.specs.BTreeMap.{get}
use Rattle.std.specs.List.{AllByRecursion}
use Rattle.std.specs.List.Sorted.{IsStrictlySortedBy}
use Rattle.std.specs.Option.{IfSome}
use Rattle.std.specs.Ordering.{nat_cmp}
use Rattle.std.specs.Prelude.{vec_capacity, vec_len}
use Rattle.ifmap_subscribes.specs.ifmap_changes.Between.{AreWithinLimits, Asking, HasNoSubscriptions, IsSoundSoFar, IsSteady, rest_of, sessions_left, seen_now, state_now, state_at, HasStartNumber}
use Rattle.ifmap_subscribes.specs.ifmap_changes.declared.parts.Parts.{Parts}
use Rattle.ifmap_core.specs.Completions.{CanApply, CanApplyTo, CanOpen, CanRename, FitsAfter, WouldBeParts, after_former, after_completion, starts_in}
use Rattle.ifmap_core.specs.declared.completions.Completion.{Completion}
use Rattle.ifmap_core.specs.declared.completions.Completion.TheVariants.{Say, Accept, End, Open, Rename, Poll}
use Rattle.ifmap_core.proofs.Taking.{map_after}
use Rattle.ifmap_core.proofs.Told.{none_mapped, told_by_leaves}
use Rattle.ifmap_subscribes.specs.ifmap_delta.SeenViews.{IsUpToDate}
use Rattle.ifmap_subscribes.specs.ifmap_graph.Seen.{rows_now}
use Rattle.ifmap_lemmas.specs.Members.{all_both, both_all, all_two}
use Rattle.ifmap_lemmas.specs.Options.{is_some_of, some_is}
use Rattle.ifmap_subscribes.specs.ifmap_machine.declared.events.Answer.{Answer}
use Rattle.ifmap_subscribes.specs.ifmap_machine.State.{State, standing_in, standing_order}
use Rattle.ifmap_subscribes.specs.ifmap_machine.State as machine
use Rattle.ifmap_subscribes.specs.ifmap_machine.Subscribing.{most_names}
use Rattle.ifmap_session.specs.ifmap_search.Sizes.{queue_size}
use Rattle.ifmap_session.specs.Sessions.{IsLive, Opening, Session, SessionTable, is_same_text, most_sessions, session_of_client, session_with_serial, spare_of}
use Rattle.ifmap_subscribes.specs.ifmap_standing.declared.standing.Standing.{Standing}
use Rattle.ifmap_subscribes.specs.ifmap_standing.Standing.{standing_of}
use Rattle.ifmap_subscribes.specs.declared.renamings.Renaming.{Renaming}
use Rattle.ifmap_subscribes.specs.Renamings.{KeepsNumbered, starts_by, rename_all, told_in_parts, told_so_far}
use Rattle.ifmap_subscribes.specs.ifmap_tellings.declared.tellings.Pending.{Pending}
use Rattle.ifmap_subscribes.specs.ifmap_view.declared.attachments.Attachment.{Attachment}
use Rattle.ifmap_subscribes.specs.ifmap_tellings.Tellings.{CanTell, EachTelling, Tellings, count_told, count_where, kept_items, tell_by}
use Rattle.ifmap_subscribes.specs.ifmap_tellings.ToldLaws.{found_told, map_kept}

-- ---- sessions that are told something

module _ (tellings : Tellings) where
  pub serial_told : (s : Session) → (tell_by tellings s).serial ≡ s.serial
  serial_told s = (told_by_leaves tellings s).serial

  pub client_told : (c : List ℕ) (s : Session) → is_same_text (tell_by tellings s).client c ≡ is_same_text s.client c
  client_told c s = ap (λ t. is_same_text t c) (told_by_leaves tellings s).client

  pub live_told : (n : ℕ) (live : List Session) → IsLive n live → IsLive n (map (tell_by tellings) live)
  live_told n live l =
      let there = some_is (session_with_serial n live) l in
      is_some_of (session_with_serial n (map (tell_by tellings) live)) (tell_by tellings there.0)
      (found_told tellings n live there.0 there.1)

  former_told : (former : Option ℕ) (live : List Session)
      → after_former former (map (tell_by tellings) live) ≡ map (tell_by tellings) (after_former former live)
  former_told None live = refl
  former_told (Some n) live = map_after (n ∷ []) (tell_by tellings) serial_told live

  -- what was pending can be told, once the sessions have ended that are expired
  pub can_tell_rest : (a : Asking) (old mid : SessionTable) → mid.live ≡ sessions_left a old
      → ((n : ℕ) → IsLive n mid.live → spare_of n mid.spare ≡ spare_of n old.spare) → EachTelling (CanTell (rest_of a old)) tellings
      → EachTelling (CanTell mid) tellings
  can_tell_rest a old mid live spare can = λ n t e.
      let one = can n t e in
      let there : IsLive n mid.live = subst (IsLive n) (sym live) one.live in
      record { live = there; room = subst (λ k. count_told t ≤ k) (sym (spare n there)) one.room }

-- ---- parts of which all is told and let go of

module _ (a : Asking) (old new : Parts) (pending : Pending) (ready : IsSoundSoFar a old pending)
    (live : new.sessions.live ≡ map (tell_by pending.tellings) (sessions_left a old.sessions))
    (standing : new.standing.items ≡ kept_items pending.gone.items old.standing.items)
    (kept : KeepsNumbered old.graph new.graph) where
  live_now : (n : ℕ) → IsLive n (sessions_left a old.sessions) → IsLive n new.sessions.live
  live_now n l = subst (IsLive n) (sym live) (live_told pending.tellings n (sessions_left a old.sessions) l)

  all_now : (P : Standing → Type 0) → AllByRecursion P (kept_items pending.gone.items old.standing.items)
      → AllByRecursion P new.standing.items
  all_now P h = subst (AllByRecursion P) (sym standing) h

  shown_now : map standing_of new.standing.items ≡ kept_items pending.gone.items (map standing_of old.standing.items)
  shown_now = ap (map standing_of) standing ∙ map_kept standing_of pending.gone.items old.standing.items

  rising_now : IsStrictlySortedBy standing_order (map standing_of new.standing.items)
  rising_now =
      subst (IsStrictlySortedBy standing_order) (sym shown_now)
      (rising_kept standing_order pending.gone.items (map standing_of old.standing.items) ready.ordered.rising)

  few_now : (n : ℕ) → length (standing_in n (map standing_of new.standing.items)) ≤ most_names
  few_now n =
      let less = fewer_kept (λ (x : machine.Standing). x.serial == n) pending.gone.items (map standing_of old.standing.items) in
      let before = ready.ordered.few n in
      subst (λ t. length (standing_in n t) ≤ most_names) (sym shown_now) (omega (arith, less, before))

  bare_now : (n : ℕ) → HasNoSubscriptions n old pending → AllByRecursion (λ (x : Standing). x.serial ≢ n) new.standing.items
  bare_now n bare =
      all_now (λ (x : Standing). x.serial ≢ n) (kept_all (λ (x : Standing). x.serial ≢ n) pending.gone.items old.standing.items bare)

  module _ (more : List Standing) (steady : IsSteady new.graph (new.standing.items ++ more)) where
    numbered_now : AllByRecursion (HasStartNumber new.graph) new.standing.items × AllByRecursion (HasStartNumber new.graph) more
    numbered_now = all_both (HasStartNumber new.graph) new.standing.items more steady.numbered

    kept_now : AllByRecursion (λ (x : Standing). IsUpToDate (seen_now new.graph) x.subscription) new.standing.items
    kept_now =
        all_two (HasStartNumber new.graph) (λ (x : Standing). IsUpToDate (seen_now old.graph) x.subscription)
        (λ (x : Standing). IsUpToDate (seen_now new.graph) x.subscription) (λ x key was. kept x.subscription key was) new.standing.items
        numbered_now.0 (all_now (λ (x : Standing). IsUpToDate (seen_now old.graph) x.subscription)
        (kept_all (λ (x : Standing). IsUpToDate (seen_now old.graph) x.subscription) pending.gone.items old.standing.items ready.kept))

    more_now : AllByRecursion (λ (x : Standing). IsUpToDate (seen_now old.graph) x.subscription) more
        → AllByRecursion (λ (x : Standing). IsUpToDate (seen_now new.graph) x.subscription) more
    more_now was =
        all_two (HasStartNumber new.graph) (λ (x : Standing). IsUpToDate (seen_now old.graph) x.subscription)
        (λ (x : Standing). IsUpToDate (seen_now new.graph) x.subscription) (λ x key was. kept x.subscription key was) more numbered_now.1
        was

    pub would_be : WouldBeParts more new
    would_be = record {
      steady = steady;
      ordered = record {
        rising = rising_now;
        live = all_now (λ (x : Standing). IsLive x.serial new.sessions.live) (kept_all (λ (x : Standing). IsLive x.serial new.sessions.live)
            pending.gone.items old.standing.items (λ i x e stays. live_now x.serial (ready.live i x e stays)));
        few = few_now;
      };
      kept = kept_now;
      within = subst AreWithinLimits (sym live) ready.within;
    }

  module _ (counter : new.sessions.counter ≡ old.sessions.counter) (room : old.sessions.room ≤ new.sessions.room)
      (spare : (n : ℕ) → IsLive n (sessions_left a old.sessions)
      → spare_of n old.sessions.spare ≤ spare_of n new.sessions.spare + count_where (get nat_cmp pending.tellings n))
      (len : vec_len new.standing ≤ vec_len old.standing) (capacity : vec_capacity new.standing ≡ vec_capacity old.standing) where
    former_live : (former : Option ℕ) → IfSome former (λ n. IsLive n (sessions_left a old.sessions))
        → IfSome former (λ n. IsLive n new.sessions.live)
    former_live None l = tt
    former_live (Some n) l = live_now n l

    former_bare : (former : Option ℕ) → IfSome former (λ n. HasNoSubscriptions n old pending)
        → IfSome former (λ n. AllByRecursion (λ (x : Standing). x.serial ≢ n) new.standing.items)
    former_bare None bare = tt
    former_bare (Some n) bare = bare_now n bare

    former_now : (former : Option ℕ) → after_former former new.sessions.live
        ≡ map (tell_by pending.tellings) (after_former former (sessions_left a old.sessions))
    former_now former =
        ap (after_former former) live ∙ former_told pending.tellings former (sessions_left a old.sessions)

    opens : (former : Option ℕ) (opening : Opening) (limit : ℕ) → CanOpen former opening limit (rest_of a old.sessions)
        → CanOpen former opening limit new.sessions
    opens former opening limit can = record {
      room = let one = can.room in omega (arith, one, room);
      live = former_live former can.live;
      none = subst (λ l. session_of_client opening.client l ≡ None) (sym (former_now former))
          (none_mapped (tell_by pending.tellings) (λ (t : Session). is_same_text t.client opening.client)
          (client_told pending.tellings opening.client) (after_former former (sessions_left a old.sessions)) can.none);
      few = subst (λ l. length l < most_sessions) (sym (former_now former))
          (subst (λ n. n < most_sessions)
          (sym (length-map (after_former former (sessions_left a old.sessions)) (tell_by pending.tellings))) can.few);
      counter = let small = can.counter in omega (arith, small, counter);
      next = can.next ∙ ap (λ n. n + 1) (sym counter);
      wide = can.wide;
    }

    fits_now : (serial : ℕ) (renamings : List Renaming) → CanRename serial renamings a old pending → FitsAfter serial renamings new
    fits_now serial renamings can = λ s e.
        let found : session_with_serial serial (state_now a old pending).sessions ≡ Some s =
        subst (λ l. session_with_serial serial l ≡ Some s) live e in
        let same : told_so_far a old pending s ≡ told_in_parts new s =
        ap (λ t. record { queue = s.queue; standing = map standing_of t }) (sym standing) in (
          subst (λ t. queue_size (rename_all serial renamings t).queue ≤ s.limit) same (can.within s found),
          subst (λ t. length (standing_in serial (rename_all serial renamings t).standing) ≤ most_names) same (can.few s found),
        )

    pub can_apply : (completion : Completion) → CanApply completion a old pending
        → IsSteady new.graph (new.standing.items ++ starts_in completion)
        → CanApplyTo completion new
    can_apply (Say answer) can steady = tt
    can_apply (Accept serial answer) can steady = live_now serial can
    can_apply (End serial answer) can steady = (live_now serial can.0, bare_now serial can.1)
    can_apply (Open former opening limit publisher) can steady = (opens former opening limit can.0, former_bare former can.1)
    can_apply (Rename serial renamings) can steady = (
      record {
        live = live_now serial can.live;
        session = can.session;
        steady = steady;
        ordered = rising_now;
        kept = both_all (λ (x : Standing). IsUpToDate (seen_now new.graph) x.subscription) new.standing.items (starts_by renamings)
            (kept_now (starts_by renamings) steady) (more_now (starts_by renamings) steady can.kept);
        places = let all = can.places in omega (arith, all, len, capacity);
        room = let all = can.room in let left_over = spare serial can.live in omega (arith, all, left_over);
      },
      fits_now serial renamings can,
    )
    can_apply (Poll serial again) can steady = live_now serial can

-- the state that parts are in, and an answer
pub finish_answers : (a : Asking) (old new : Parts) (pending : Pending) (completion : Completion) (answer : Answer)
    → rows_now new.graph ≡ rows_now old.graph → ◌≡◌ {A = State × Answer} (after_completion completion (state_now a old pending)) (
      record (state_now a old pending) {
        counter = new.sessions.counter;
        sessions = new.sessions.live;
        standing = map standing_of new.standing.items;
      },
      answer,
    )
    → ◌≡◌ {A = State × Answer} (after_completion completion (state_now a old pending)) (state_at a.ttl a.moment new, answer)
finish_answers a old new pending completion answer rows e =
    e ∙ ap (λ (g : List Attachment). (record (state_at a.ttl a.moment new) { graph = g }, answer)) (sym rows)
