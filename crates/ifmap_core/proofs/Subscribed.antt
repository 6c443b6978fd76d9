-- A subscribe that was made ready: its names are to be renamed, or one error takes the place of all.
-- First what stays ready (`ready_there`, `ready_room`), and what is so far (`same_so_far`). Then the session's limit (`told_live`). Then an
-- completion that renames (`leads_renamed`): no queue is greater than its limit, so that nothing overflows. Then one error in place of all
-- (`overruns`). Last, what holds once operations were made ready, and what they lead to (`holds_later_or_kept`, `holds_leads`).
use Rattle.std.proofs.Common.{◌≡◌, sym, ◌∙◌, ap, subst, ℕ, ◌+◌, ◌<◌, ◌≤◌, ◌==◌, Bool, true, false, not, List, [], ◌∷◌, length, map, Option, Some, None, Result, Ok, Err, inl, inr, arith}
use Rattle.ifmap_subscribes.specs.ifmap_tellings.KeptPlaces.{all_left}
use Rattle.std.proofs.lemmas.Bool.{cases_Bool}
use Rattle.std.proofs.lemmas.Bool.Decides.{nat_tests}
use Rattle.std.proofs.lemmas.List.Sums.{sum_by-cons}
use Rattle.std.specs.BTreeMap.{get}
use Rattle.std.specs.List.{AllByRecursion, filter, list_any}
use Rattle.std.specs.List.Sorted.{IsStrictlySortedBy}
use Rattle.std.specs.Ordering.{nat_cmp}
use Rattle.std.specs.Option.{option_to_list}
use Rattle.std.specs.Prelude.{vec_capacity, vec_len}
use Rattle.std.specs.declared.cmp.Ordering.TheVariants.{Less}
use Rattle.ifmap_subscribes.specs.ifmap_changes.Between.{AreKept, AreLaterParts, AreWithinLimits, Asking, IsSoundSoFar, IsSteady, IsWithinLimit, sessions_left, seen_now, state_now}
use Rattle.ifmap_subscribes.specs.ifmap_changes.declared.parts.Parts.{Parts}
use Rattle.ifmap_core.specs.Answering.{AreLaterOrKept}
use Rattle.ifmap_core.specs.Completions.{CanRename, LeadsToAnswer, after_completion, state_with_error, rename_in}
use Rattle.ifmap_core.specs.declared.completions.Completion.TheVariants.{Rename}
use Rattle.ifmap_core.proofs.Ended.{rising_left}
use Rattle.ifmap_core.proofs.Overrun.{Grows, IsFit, changed_within, grows_rising, no_overflow, others_renamed, over_is}
use Rattle.ifmap_core.proofs.Places.{all_are_kept, kept_both, searched_itself}
use Rattle.ifmap_core.proofs.Told.{before_told, one_numbered, told_by_leaves, told_rising}
use Rattle.ifmap_core.proofs.LaterParts.{shares_later, later_twice}
use Rattle.ifmap_subscribes.specs.ifmap_delta.SeenViews.{IsUpToDate}
use Rattle.ifmap_subscribes.specs.ifmap_delta.SameSearches.{HasSameSearch}
use Rattle.ifmap_subscribes.specs.ifmap_graph.Seen.{rows_now}
use Rattle.ifmap_lemmas.specs.Filters.{all_weaker}
use Rattle.ifmap_lemmas.specs.Mapped.{one_at_most}
use Rattle.ifmap_subscribes.specs.ifmap_machine.State as machine
use Rattle.ifmap_subscribes.specs.ifmap_machine.State.{State, standing_in}
use Rattle.ifmap_subscribes.specs.ifmap_machine.Step.{answer_subscribed, renew, with_told}
use Rattle.ifmap_subscribes.specs.ifmap_machine.declared.events.Answer.{Answer}
use Rattle.ifmap_subscribes.specs.ifmap_machine.declared.events.Answer.TheVariants as the_answer
use Rattle.ifmap_subscribes.specs.ifmap_replies.declared.replies.Reply.TheVariants as the_reply
use Rattle.ifmap_subscribes.specs.ifmap_machine.Subscribing.{Told, most_names}
use Rattle.ifmap_subscribes.specs.ifmap_machine.Telling.{overflow}
use Rattle.ifmap_subscribes.specs.ifmap_pool.Holdings.{key_at}
use Rattle.ifmap_session.specs.ifmap_search.Sizes.{queue_size}
use Rattle.ifmap_session.specs.Sessions.{IsLive, Session, SessionTable, session_order, session_with_serial, spare_of, without_sessions}
use Rattle.ifmap_subscribes.specs.ifmap_standing.declared.standing.Standing.{Standing}
use Rattle.ifmap_subscribes.specs.ifmap_standing.Kept.{AtEach, KeepsSame, StaysRelated}
use Rattle.ifmap_subscribes.specs.ifmap_standing.Standing.{standing_of}
use Rattle.ifmap_subscribes.specs.declared.renamings.Renaming.{Renaming}
use Rattle.ifmap_subscribes.specs.declared.readying.Readying.{Readying}
use Rattle.ifmap_subscribes.specs.Readying.{AreReadied, OnlyHolds, queue_where, told_after, told_at}
use Rattle.ifmap_subscribes.specs.Renamings.{item_count, rename_all, told_so_far, KeepsNumbered}
use Rattle.ifmap_subscribes.specs.ifmap_tellings.declared.tellings.Pending.{Pending}
use Rattle.ifmap_subscribes.specs.ifmap_tellings.Tellings.{AllKept, HasSameSessions, count_where, kept_items, tell_by}
use Rattle.ifmap_session.specs.laws.TableLaws.{found_serial, left_live}
use Rattle.ifmap_subscribes.specs.ifmap_tellings.ToldLaws.{same_sessions_itself, map_kept}

-- ---- what only holds leave

-- parts whose sessions and subscriptions stay, and whose graph keeps what is kept there
pub ready_there : (a : Asking) (old new : Parts) (pending : Pending) → new.sessions ≡ old.sessions
    → new.standing.items ≡ old.standing.items → KeepsNumbered old.graph new.graph → IsSteady new.graph new.standing.items
    → IsSoundSoFar a old pending → IsSoundSoFar a new pending
ready_there a old new pending sessions standing there steady r =
    let numbers = all_are_kept (λ (x : Standing). key_at new.graph.names x.subscription.region.start ≡ Some x.subscription.search.start)
    pending.gone.items new.standing.items steady.numbered in
    let kept : AllKept (λ (x : Standing). IsUpToDate (seen_now new.graph) x.subscription) pending.gone.items new.standing.items =
    kept_both (λ (x : Standing). IsUpToDate (seen_now old.graph) x.subscription)
    (λ (x : Standing). key_at new.graph.names x.subscription.region.start ≡ Some x.subscription.search.start)
    (λ (x : Standing). IsUpToDate (seen_now new.graph) x.subscription)
    (λ x k n. there x.subscription n k) pending.gone.items new.standing.items
    (subst (AllKept (λ (x : Standing). IsUpToDate (seen_now old.graph) x.subscription) pending.gone.items) (sym standing) r.kept) numbers
    in
    record {
      ended = rw sessions r.ended;
      ordered = rw (sessions, standing) r.ordered;
      flags = rw standing r.flags;
      kept = kept;
      live = rw (sessions, standing) r.live;
      queues = rw sessions r.queues;
      within = rw sessions r.within;
      can_tell = rw sessions r.can_tell;
      sized = rw sessions r.sized;
      alone = rw standing r.alone;
    }

holds_later : (old new : Parts) → OnlyHolds old new → AreLaterParts old new
holds_later old new h = record {
  waits = h.waits;
  lean = h.lean;
  searches = subst (λ xs. AtEach (λ _. StaysRelated HasSameSearch) old.standing.items xs)
      (ap (λ v. v.items) (sym h.standing)) (searched_itself old.standing.items);
  sessions = subst (HasSameSessions old.sessions) (sym h.sessions) (same_sessions_itself old.sessions);
}

-- what is so far is what it was
pub same_so_far : (a : Asking) (old new : Parts) (pending : Pending) → rows_now new.graph ≡ rows_now old.graph
    → HasSameSessions old.sessions new.sessions → new.standing.items ≡ old.standing.items → state_now a new pending
    ≡ state_now a old pending
same_so_far a old new pending rows sessions standing =
    ap (λ (n : ℕ). record (state_now a new pending) { counter = n }) sessions.counter
    ∙ ap (λ rs. record (state_now a new pending) { counter = old.sessions.counter; graph = rs }) rows
    ∙ ap (λ (live : List Session). record (state_now a new pending) {
      counter = old.sessions.counter;
      graph = rows_now old.graph;
      sessions = map (tell_by pending.tellings) (without_sessions a.ended live);
    }) sessions.live
    ∙ ap (λ (xs : List Standing). record (state_now a old pending) { standing = map standing_of (kept_items pending.gone.items xs) })
    standing

-- what is ready is, once there is more room
pub ready_room : (a : Asking) (old new : Parts) (pending : Pending) → new.graph ≡ old.graph → HasSameSessions old.sessions new.sessions
    → new.standing.items ≡ old.standing.items → IsSoundSoFar a old pending → IsSoundSoFar a new pending
ready_room a old new pending graph sessions standing r = record {
  ended = rw (sessions.live) r.ended;
  ordered = rw (sessions.live, standing) r.ordered;
  flags = rw standing r.flags;
  kept = rw (graph, standing) r.kept;
  live = rw (sessions.live, standing) r.live;
  queues = rw (sessions.live) r.queues;
  within = rw (sessions.live) r.within;
  can_tell = λ n t e. let was = r.can_tell n t e in record {
    live = rw (sessions.live) was.live;
    room = omega (arith, was.room, sessions.spare n);
  };
  sized = rw (sessions.live) r.sized;
  alone = rw standing r.alone;
}

-- ---- the session's limit

left_found : (p : Session → Bool) (n : ℕ) (live : List Session) (s : Session) → IsStrictlySortedBy session_order live
    → session_with_serial n (filter p live) ≡ Some s → session_with_serial n live ≡ Some s
unfolding IsStrictlySortedBy
left_found p n [] s up e = cc
left_found p n (x ∷ live) s up e =
    elim (cases_Bool (p x)) [
      | inl stays ↦
          elim (cases_Bool (x.serial == n)) [
            | inl hit ↦ rw hit (rw (stays, hit) at e)
            | inr miss ↦ rw miss (left_found p n live s up.1 (rw (stays, miss) at e))
          ]
      | inr goes ↦
          let there = left_found p n live s up.1 (rw goes at e) in
          elim (cases_Bool (x.serial == n)) [
            | inl hit ↦ absurd (twice x live s hit up.0 there)
            | inr miss ↦ rw miss there
          ]
    ]
  where
    twice : (y : Session) (ys : List Session) (t : Session) → (y.serial == n) ≡ true
        → AllByRecursion (λ z. session_order y z ≡ Less) ys
        → session_with_serial n ys ≡ Some t → ⊥
    twice y [] t hit up e = let bad : None ≡ Some t = e in cc
    twice y (z ∷ ys) t hit up e =
        let less = up.0 in
        let other : (z.serial == n) ≡ false = grind (arith, nat_tests, hit, less) in
        twice y ys t hit up.1 (rw other at e)

-- the session that is told is live, with the same limit
pub told_live : (a : Asking) (parts : Parts) (pending : Pending) (n : ℕ) (s : Session)
    → IsStrictlySortedBy session_order parts.sessions.live
    → session_with_serial n (state_now a parts pending).sessions ≡ Some s
    → (t : Session) × (session_with_serial n parts.sessions.live ≡ Some t) × (tell_by pending.tellings t ≡ s) × (s.limit ≡ t.limit)
told_live a parts pending n s up e =
    let t = before_told pending.tellings n (sessions_left a parts.sessions) s e in (
      t.0,
      left_found (λ (x : Session). not (list_any (λ m. m == x.serial) a.ended)) n parts.sessions.live t.0 up t.1,
      t.2,
      ap (λ (x : Session). x.limit) (sym t.2) ∙ (told_by_leaves pending.tellings t.0).limit,
    )

-- what is left is live
pub live_left : (a : Asking) (n : ℕ) (table : SessionTable) → IsLive n (sessions_left a table) → IsLive n table.live
live_left a n table l = left_live (λ (x : Session). not (list_any (λ m. m == x.serial) a.ended)) n table.live l

-- ---- names are to be renamed

items_few : (rs : List Renaming) → item_count rs ≤ length rs
items_few [] = omega arith
items_few (r ∷ rs) =
    let sum = sum_by-cons (λ (x : Renaming). length (option_to_list x.item)) r rs in
    let one = one_at_most r.item in
    let rest = items_few rs in
    omega (arith, sum, one, rest)

fit_each : (live : List Session) → AreWithinLimits live → AllByRecursion IsFit live
fit_each live h = all_weaker IsWithinLimit IsFit (λ s w. w.full) live h

pub renames : (serial : ℕ) (rs : List Renaming) (state : State) (s : Session) (t : Told) → IsStrictlySortedBy session_order state.sessions
    → session_with_serial serial state.sessions ≡ Some s → AreWithinLimits state.sessions
    → t ≡ record { queue = s.queue; standing = state.standing } → queue_size (rename_all serial rs t).queue ≤ s.limit
    → ◌≡◌ {A = State × Answer}
    (rename_in serial rs state (session_with_serial serial state.sessions), the_answer.Reply the_reply.Subscribed)
    (answer_subscribed state s (Some (rename_all serial rs t)))
renames serial rs state s t up found within is few =
    let after = rename_all serial rs t in
    let fits : AllByRecursion IsFit (with_told serial after state).sessions =
    changed_within serial after.queue s few state.sessions (one_numbered serial state.sessions s up found)
    (fit_each state.sessions within) in
    rw found (ap (λ (u : Told). (renew serial (with_told serial (rename_all serial rs u) state), the_answer.Reply the_reply.Subscribed))
    (sym is)
    ∙ ap (λ (st : State). (renew serial st, the_answer.Reply the_reply.Subscribed)) (sym (no_overflow (with_told serial after state) fits))
    ∙ ap (λ (n : ℕ). (renew n (overflow (with_told n after state)), the_answer.Reply the_reply.Subscribed))
    (sym (found_serial serial state.sessions s found)))

so_far_rising : (a : Asking) (parts : Parts) (pending : Pending) → IsStrictlySortedBy session_order parts.sessions.live
    → IsStrictlySortedBy session_order (state_now a parts pending).sessions
so_far_rising a parts pending up = told_rising pending.tellings (sessions_left a parts.sessions)
    (rising_left a.ended parts.sessions.live up)

pub told_is : (a : Asking) (parts : Parts) (pending : Pending) (n : ℕ) (s : Session)
    → session_with_serial n (state_now a parts pending).sessions ≡ Some s
    → told_at n a parts pending ≡ record { queue = s.queue; standing = (state_now a parts pending).standing }
told_is a parts pending n s e =
    ap (λ (o : Option Session). record { queue = queue_where o; standing = (state_now a parts pending).standing }) e

module _ (a : Asking) (old : Parts) (pending : Pending) (serial : ℕ) (readying : Readying)
    (up : IsStrictlySortedBy session_order old.sessions.live)
    (r : AreReadied serial (told_at serial a old pending) old readying) where
  abbrev after : Told
  after = told_after serial readying (told_at serial a old pending)

  -- the session's queue is within its limit, or not
  pub within_limit : ((s : Session) → session_with_serial serial old.sessions.live ≡ Some s → readying.size ≤ s.limit)
      → (s : Session) → session_with_serial serial (state_now a old pending).sessions ≡ Some s → queue_size after.queue ≤ s.limit
  within_limit limit s e =
      let t = told_live a old pending serial s up e in omega (arith, limit t.0 t.1, t.3, r.counted.size)

  pub over_limit : ((s : Session) → session_with_serial serial old.sessions.live ≡ Some s → s.limit < readying.size)
      → (s : Session) → session_with_serial serial (state_now a old pending).sessions ≡ Some s → s.limit < queue_size after.queue
  over_limit limit s e =
      let t = told_live a old pending serial s up e in omega (arith, limit t.0 t.1, t.3, r.counted.size)

  pub can_rename : (new : Parts) → new.graph ≡ old.graph → HasSameSessions old.sessions new.sessions
      → new.standing.items ≡ old.standing.items → IsLive serial (sessions_left a old.sessions)
      → ((s : Session) → session_with_serial serial old.sessions.live ≡ Some s → readying.size ≤ s.limit)
      → vec_len new.standing + length readying.made.items ≤ vec_capacity new.standing
      → count_where (get nat_cmp pending.tellings serial) + length readying.made.items ≤ spare_of serial new.sessions.spare
      → CanRename serial readying.made.items a new pending
  can_rename new graph sessions standing live limit places room =
      let same = same_so_far a old new pending (ap rows_now graph) sessions standing in
      let back : (s : Session) → session_with_serial serial (state_now a new pending).sessions ≡ Some s
      → session_with_serial serial (state_now a old pending).sessions ≡ Some s =
      λ s e. ap (λ (st : State). session_with_serial serial st.sessions) (sym same) ∙ e in
      let told : (s : Session) → session_with_serial serial (state_now a new pending).sessions ≡ Some s
      → told_so_far a new pending s ≡ told_at serial a old pending =
      λ s e. ap (λ (st : State). record { queue = s.queue; standing = st.standing }) same
      ∙ sym (told_is a old pending serial s (back s e)) in
      record {
        live = subst (λ (l : List Session). IsLive serial (without_sessions a.ended l)) (sym sessions.live) live;
        session = r.stand.session;
        kept = rw graph r.stand.kept;
        places = places;
        room = let few = items_few readying.made.items in omega (arith, few, room);
        within = λ s e. subst (λ (t : Told). queue_size (rename_all serial readying.made.items t).queue ≤ s.limit) (sym (told s e))
            (within_limit limit s (back s e));
        few = λ s e. subst (λ (t : Told). length (standing_in serial (rename_all serial readying.made.items t).standing) ≤ most_names)
            (sym (told s e)) (subst (λ (n : ℕ). n ≤ most_names) r.counted.count r.counted.few);
      }

  pub leads_renamed : (new : Parts) → new.graph ≡ old.graph → HasSameSessions old.sessions new.sessions
      → new.standing.items ≡ old.standing.items → IsSoundSoFar a old pending → IsLive serial (sessions_left a old.sessions)
      → ((s : Session) → session_with_serial serial old.sessions.live ≡ Some s → readying.size ≤ s.limit)
      → vec_len new.standing + length readying.made.items ≤ vec_capacity new.standing
      → count_where (get nat_cmp pending.tellings serial) + length readying.made.items ≤ spare_of serial new.sessions.spare
      → (s : Session) → session_with_serial serial (state_now a old pending).sessions ≡ Some s
      → LeadsToAnswer (Rename serial readying.made.items) a new pending (answer_subscribed (state_now a old pending) s (Some after))
  leads_renamed new graph sessions standing ready live limit places room s e = record {
    can = record {
      steady = rw (graph, standing) r.stand.steady;
      ready = ready_room a old new pending graph sessions standing ready;
      can = can_rename new graph sessions standing live limit places room;
    };
    leads = ap (after_completion (Rename serial readying.made.items)) (same_so_far a old new pending (ap rows_now graph) sessions standing)
        ∙ renames serial readying.made.items (state_now a old pending) s (told_at serial a old pending) (so_far_rising a old pending up) e
        ready.within (told_is a old pending serial s e) (within_limit limit s e);
  }

  -- one error in place of all
  pub overruns : IsSoundSoFar a old pending →
      ((s : Session) → session_with_serial serial old.sessions.live ≡ Some s → s.limit < readying.size)
      → (s : Session) → session_with_serial serial (state_now a old pending).sessions ≡ Some s
      → (next : State) → next ≡ state_with_error serial readying.size (state_now a old pending)
      → ◌≡◌ {A = State × Answer} (renew serial next, the_answer.Reply the_reply.Subscribed)
      (answer_subscribed (state_now a old pending) s (Some after))
  overruns ready limit s e next is =
      let state = state_now a old pending in
      let grows : Grows (map standing_of (kept_items pending.gone.items old.standing.items)) =
      subst Grows (sym (map_kept standing_of pending.gone.items old.standing.items))
      (grows_left pending.gone.items (map standing_of old.standing.items)
      (grows_rising (map standing_of old.standing.items) ready.ordered.rising)) in
      let others = others_renamed serial readying.made.items r.stand.session (told_at serial a old pending) grows in
      let it = over_is serial state s after (so_far_rising a old pending up) e (fit_each state.sessions ready.within)
      (over_limit limit s e) others in
      ap (λ (st : State). (renew serial st, the_answer.Reply the_reply.Subscribed)) (is
      ∙ ap (λ (n : ℕ). state_with_error serial n state) r.counted.size ∙ sym it)
      ∙ ap (λ (n : ℕ). (renew n (overflow (with_told n after state)), the_answer.Reply the_reply.Subscribed))
      (sym (found_serial serial state.sessions s e))
    where
      grows_left : (gone : List Bool) (xs : List machine.Standing) → Grows xs → Grows (kept_items gone xs)
      grows_left [] xs g = tt
      grows_left (b ∷ gone) [] g = tt
      grows_left (true ∷ gone) (x ∷ xs) g = grows_left gone xs g.1
      grows_left (false ∷ gone) (x ∷ xs) g = (all_left (λ (y : machine.Standing). x.serial ≤ y.serial) gone xs g.0, grows_left gone xs g.1)

-- ---- holds, and then what is kept

-- what only holds, and then is kept, is kept
holds_kept : (old mid new : Parts) → OnlyHolds old mid → AreKept mid new → AreKept old new
holds_kept old mid new h k = record {
  back = record {
    steady = k.back.steady;
    rows = k.back.rows ∙ h.rows;
    links = λ v. k.back.links v ∙ h.links v;
    numbers = shares_later old.graph mid.graph new.graph h.numbers k.back.numbers;
    lean = λ rest l. k.back.lean rest (h.lean rest l);
    standing = subst (λ xs. AtEach (λ _. StaysRelated KeepsSame) xs new.standing.items) (ap (λ v. v.items) h.standing) k.back.standing;
    sessions = subst (λ t. HasSameSessions t new.sessions) h.sessions k.back.sessions;
  };
  backs = λ u rows links b. k.backs u rows links (h.backs u rows links b);
}

-- what only holds, and then turns or keeps the parts, does so from the start
pub holds_later_or_kept : {X E : Type 0} (r : Result X E) (old mid new : Parts) → OnlyHolds old mid → AreLaterOrKept r mid new
    → AreLaterOrKept r old new
holds_later_or_kept (Ok x) old mid new h c = record { later = later_twice old mid new (holds_later old mid h) c.later; kept = tt }
holds_later_or_kept (Err e) old mid new h c = record { later = tt; kept = holds_kept old mid new h c.kept }

pub holds_so_far : (a : Asking) (old new : Parts) (pending : Pending) → OnlyHolds old new → state_now a new pending
    ≡ state_now a old pending
holds_so_far a old new pending h =
    same_so_far a old new pending h.rows (subst (HasSameSessions old.sessions) (sym h.sessions) (same_sessions_itself old.sessions))
    (ap (λ v. v.items) h.standing)

-- what operations that are ready lead to, said of the state before them
pub holds_leads : (P : State × Answer → Type 0) (a : Asking) (old mid : Parts) (pending : Pending) (serial : ℕ)
    (readying : Readying) (wanted : Option Told) → OnlyHolds old mid → wanted ≡ Some
    (told_after serial readying (told_at serial a old pending))
    → ((s : Session) → session_with_serial serial (state_now a mid pending).sessions ≡ Some s
    → P (answer_subscribed (state_now a mid pending) s (Some (told_after serial readying (told_at serial a mid pending)))))
    → (s : Session) → session_with_serial serial (state_now a old pending).sessions ≡ Some s
    → P (answer_subscribed (state_now a old pending) s wanted)
holds_leads P a old mid pending serial readying wanted h is f s e =
    let same = holds_so_far a old mid pending h in
    let there : session_with_serial serial (state_now a mid pending).sessions ≡ Some s = ap
    (λ (st : State). session_with_serial serial st.sessions) same ∙ e in
    let moved : answer_subscribed (state_now a mid pending) s (Some (told_after serial readying (told_at serial a mid pending)))
    ≡ answer_subscribed (state_now a old pending) s (Some (told_after serial readying (told_at serial a old pending))) =
    ap (λ (st : State). answer_subscribed st s (Some (told_after serial readying
    (record { queue = queue_where (session_with_serial serial st.sessions); standing = st.standing })))) same in
    subst P (moved ∙ ap (answer_subscribed (state_now a old pending) s) (sym is)) (f s there)
