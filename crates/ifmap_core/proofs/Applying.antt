-- What is left to do of an event, done to the sessions and subscriptions.
-- 1. Queues stay within their limits as sessions change, end or begin (`within_changed`,
--    `within_left`, `within_begun`).
-- 2. What a poll tells is the queue that stood, which is then empty (`poll_told`).
-- 3. Sessions end one after the other: how far that has come (`EndsSoFar`), one on (`one_ended`),
--    and all of them (`ended_all`).
-- 4. Sessions live on beside those that change or begin (`live_changed`, `live_begun`).
-- 5. So subscriptions stay in order beside them (`ordered_by`, `ordered_beside`, `former_ordered`).
use Rattle.std.proofs.Common.{◌≡◌, ◌≢◌, refl, sym, ◌∙◌, ap, subst, ℕ, ◌+◌, ◌<◌, ◌≤◌, ◌==◌, Bool, true, false, List, [], ◌∷◌, ◌++◌, drop, get_or, length, map, Option, None, Some, inl, inr, arith}
use Rattle.std.proofs.lemmas.Bool.{cases_Bool, eq-eqb}
use Rattle.std.proofs.lemmas.Bool.Decides.{nat_tests}
use Rattle.std.proofs.lemmas.List.{drop_all, drop_more}
use Rattle.std.specs.List.{AllByRecursion}
use Rattle.std.specs.List.Sorted.{IsStrictlySortedBy}
use Rattle.std.specs.Option.{IfSome}
use Rattle.ifmap_subscribes.specs.ifmap_changes.Between.{AreOrdered, AreWithinLimits, CanEnd, IsWithinLimit}
use Rattle.ifmap_core.specs.Completions.{after_former, first_renewed, poll_answer, poll_found}
use Rattle.ifmap_core.proofs.Ended.{live_beside, without_each, without_none}
use Rattle.ifmap_lemmas.specs.Filters.{all_filter, all_weaker}
use Rattle.ifmap_lemmas.specs.Members.{both_all, all_two}
use Rattle.ifmap_lemmas.specs.Numbers.{is_other}
use Rattle.ifmap_lemmas.specs.Options.{is_some_of, some_is}
use Rattle.ifmap_subscribes.specs.ifmap_machine.declared.events.Answer.TheVariants as the_answer
use Rattle.ifmap_subscribes.specs.ifmap_machine.Ending.{without_standing}
use Rattle.ifmap_subscribes.specs.ifmap_machine.State.{State}
use Rattle.ifmap_subscribes.specs.ifmap_machine.Step.{poll_queue, renew_first}
use Rattle.ifmap_subscribes.specs.ifmap_machine.Telling.{is_overfull}
use Rattle.ifmap_subscribes.specs.ifmap_replies.declared.replies.Reply.TheVariants as the_reply
use Rattle.ifmap_session.specs.ifmap_search.declared.results.PollItem.{PollItem}
use Rattle.ifmap_session.specs.ifmap_search.Sizes.{queue_size}
use Rattle.ifmap_session.specs.Sessions.{IsLive, Opening, Session, change, session_from, session_order, session_with_serial, with_last, without_items, without_sessions}
use Rattle.ifmap_session.specs.laws.TableLaws.{KeepsIdAndClient, changed_one, found_beside_begun, found_changed, renewed_keeps, found_serial, is_left}
use Rattle.ifmap_subscribes.specs.ifmap_standing.declared.standing.Standing.{Standing}
use Rattle.ifmap_subscribes.specs.ifmap_standing.Standing.{standing_of}
use Rattle.ifmap_subscribes.specs.ifmap_tellings.ChangeLaws.{others_same}
use Rattle.ifmap_subscribes.specs.ifmap_tellings.Tellings.{IsWide}

-- ---- queues stay within their limits

pub within_changed : (n : ℕ) (f : Session → Session) → ((s : Session) → IsWithinLimit s → IsWithinLimit (f s)) → (live : List Session)
    → AreWithinLimits live → AreWithinLimits (change n f live)
within_changed n f keeps [] h = tt
within_changed n f keeps (s ∷ live) h =
    elim (cases_Bool (s.serial == n)) [
      | inl hit ↦ (rw hit (keeps s h.0), within_changed n f keeps live h.1)
      | inr miss ↦ (rw miss h.0, within_changed n f keeps live h.1)
    ]

pub within_renewed : (n moment : ℕ) (live : List Session) → AreWithinLimits live → AreWithinLimits (change n (with_last moment) live)
within_renewed n moment live h = within_changed n (with_last moment) (λ s w. record { full = w.full; wide = w.wide }) live h

emptied_full : (s : Session) → is_overfull (without_items s) ≡ false
emptied_full s = grind (arith, nat_tests)

pub within_emptied : (n : ℕ) (live : List Session) → AreWithinLimits live → AreWithinLimits (change n without_items live)
within_emptied n live h = within_changed n without_items (λ s w. record { full = emptied_full s; wide = w.wide }) live h

pub within_first : (again : Bool) (n moment : ℕ) (live : List Session) → AreWithinLimits live → AreWithinLimits
    (first_renewed again n moment live)
within_first true n moment live h = h
within_first false n moment live h = within_renewed n moment live h

pub within_left : (serials : List ℕ) (live : List Session) → AreWithinLimits live → AreWithinLimits (without_sessions serials live)
within_left serials live h = all_filter IsWithinLimit (is_left serials) live h

pub within_former : (former : Option ℕ) (live : List Session) → AreWithinLimits live → AreWithinLimits (after_former former live)
within_former None live h = h
within_former (Some n) live h = within_left (n ∷ []) live h

begun_full : (opening : Opening) (limit moment : ℕ) → is_overfull (session_from opening limit moment) ≡ false
begun_full opening limit moment = grind (arith, nat_tests)

pub within_begun : (opening : Opening) (limit moment : ℕ) (live : List Session) → IsWide limit → AreWithinLimits live
    → AreWithinLimits (live ++ session_from opening limit moment ∷ [])
within_begun opening limit moment live wide h =
    both_all IsWithinLimit live (session_from opening limit moment ∷ []) h
    (record { full = begun_full opening limit moment; wide = wide }, tt)

not_full : (s : Session) (queue : List PollItem) → queue_size queue ≤ s.limit → is_overfull (record s { queue = queue }) ≡ false
not_full s queue le = grind (arith, nat_tests, le)

-- ---- what a poll tells

-- a session has another queue, which is within its limit
pub fits_within : (n : ℕ) (queue : List PollItem) (live : List Session) → IsStrictlySortedBy session_order live → AreWithinLimits live
    → ((s : Session) → session_with_serial n live ≡ Some s → queue_size queue ≤ s.limit)
    → AreWithinLimits (change n (λ (s : Session). record s { queue = queue }) live)
unfolding IsStrictlySortedBy
fits_within n queue [] up h fits = tt
fits_within n queue (x ∷ live) up h fits =
    elim (cases_Bool (x.serial == n)) [
      | inl hit ↦
          let le : queue_size queue ≤ x.limit = fits x (rw hit refl) in (
            rw hit (record { full = not_full x queue le; wide = h.0.wide }),
            subst AreWithinLimits (sym (others_same n x (λ (s : Session). record s { queue = queue }) live hit up.0)) h.1,
          )
      | inr miss ↦ (rw miss h.0, fits_within n queue live up.1 h.1 (λ s e. fits s (rw miss e)))
    ]

-- where the queue is empty, emptying it changes nothing
pub emptied_same : (n : ℕ) (live : List Session) (s : Session) → IsStrictlySortedBy session_order live → session_with_serial n live ≡ Some s
    → s.queue ≡ [] → change n without_items live ≡ live
unfolding IsStrictlySortedBy
emptied_same n [] s up e none = refl
emptied_same n (x ∷ live) s up e none =
    elim (cases_Bool (x.serial == n)) [
      | inl hit ↦
          let same : x ≡ s = cc (rw hit at e) in
          let queue : x.queue ≡ [] = ap (λ (t : Session). t.queue) same ∙ none in
          rw (hit, others_same n x without_items live hit up.0) (ap (λ q. record x { queue = q } ∷ live) (sym queue))
      | inr miss ↦ rw miss (ap (λ t. x ∷ t) (emptied_same n live s up.1 (rw miss at e) none))
    ]

pub told_some : (items : List PollItem) → (items ≡ [] → ⊥) → poll_answer items ≡ the_answer.Reply (the_reply.Polled items)
told_some [] some = absurd (some refl)
told_some (item ∷ items) some = refl

pub emptied_keeps : KeepsIdAndClient without_items
emptied_keeps = record { serial = λ s. refl; id = λ s. refl; client = λ s. refl }

pub live_emptied : (n : ℕ) (live : List Session) → IsLive n live → IsLive n (change n without_items live)
live_emptied n live l =
    let there = some_is (session_with_serial n live) l in
    is_some_of (session_with_serial n (change n without_items live)) (changed_one n without_items there.0)
    (found_changed n without_items emptied_keeps n live there.0 there.1)

first_is : (again : Bool) (n : ℕ) (state : State)
    → renew_first again n state ≡ record state { sessions = first_renewed again n state.moment state.sessions }
first_is true n state = refl
first_is false n state = refl

pub poll_told : (state : State) (again : Bool) (n : ℕ) (s : Session) → IsStrictlySortedBy session_order state.sessions
    → session_with_serial n state.sessions ≡ Some s → (items : List PollItem) → items ≡ s.queue
    → poll_found state again (session_with_serial n state.sessions)
    ≡ (record state { sessions = first_renewed again n state.moment (change n without_items state.sessions) }, poll_answer items)
poll_told state again n s up found items is =
    let serial = found_serial n state.sessions s found in
    rw (found, ← is, serial) (queue_told items is)
  where
    queue_told : (list : List PollItem) → list ≡ s.queue
        → poll_queue state again (record s { serial = n }) list
        ≡ (record state { sessions = first_renewed again n state.moment (change n without_items state.sessions) }, poll_answer list)
    queue_told [] is =
        rw (emptied_same n state.sessions s up found (sym is)) (ap (λ (t : State). (t, poll_answer [])) (first_is again n state))
    queue_told (item ∷ list) is =
        ap (λ (t : State). (t, poll_answer (item ∷ list)))
        (first_is again n (record state { sessions = change n without_items state.sessions }))

-- ---- sessions end one after the other

pub record EndsSoFar (ended : List ℕ) (old new : List Session) (i : ℕ) : Type 0 where
  pub can : CanEnd (drop i ended) new
  pub rest : without_sessions (drop i ended) new ≡ without_sessions ended old

pub one_ended : (ended : List ℕ) (old mid new : List Session) (i : ℕ) → i < length ended → EndsSoFar ended old mid i
    → new ≡ without_sessions (get_or ended i 0 ∷ []) mid → EndsSoFar ended old new (i + 1)
one_ended ended old mid new i lt so e =
    let x : ℕ = get_or ended i 0 in
    let next = drop_more ended i 0 lt in
    let can : CanEnd (x ∷ drop (i + 1) ended) mid = subst (λ ns. CanEnd ns mid) next so.can in
    let rest : without_sessions (x ∷ drop (i + 1) ended) mid ≡ without_sessions ended old =
    subst (λ ns. without_sessions ns mid ≡ without_sessions ended old) next so.rest in
    rw e (record { can = can.1; rest = sym (without_each x (drop (i + 1) ended) mid) ∙ rest })

pub one_can_end : (ended : List ℕ) (old mid : List Session) (i : ℕ) → i < length ended → EndsSoFar ended old mid i
    → IsLive (get_or ended i 0) mid
one_can_end ended old mid i lt so =
    let can : CanEnd (get_or ended i 0 ∷ drop (i + 1) ended) mid = subst (λ ns. CanEnd ns mid) (drop_more ended i 0 lt) so.can in can.0

pub ended_all : (ended : List ℕ) (old new : List Session) (i : ℕ) → length ended ≤ i → EndsSoFar ended old new i
    → new ≡ without_sessions ended old
ended_all ended old new i le so =
    sym (without_none new) ∙ ap (λ (ns : List ℕ). without_sessions ns new) (sym (drop_all i ended le)) ∙ so.rest

-- what is live beside those that ended
not_live : (m : ℕ) (live : List Session) → IsLive m (without_sessions (m ∷ []) live) → ⊥
not_live m [] l = cc
not_live m (x ∷ live) l =
    elim (cases_Bool (m == x.serial)) [
      | inl goes ↦ not_live m live (rw goes at l)
      | inr stays ↦
          let other : (x.serial == m) ≡ false = is_other x.serial m (λ e. let same : (m == x.serial) ≡ true = eq-eqb m x.serial (sym e) in
          let bad : true ≡ false = sym same ∙ stays in cc) in
          not_live m live (rw (stays, other) at l)
    ]

pub other_lives : (n m : ℕ) (live : List Session) → IsLive n (without_sessions (m ∷ []) live) → n ≢ m
other_lives n m live l = λ e. not_live m live (subst (λ k. IsLive k (without_sessions (m ∷ []) live)) e l)

pub was_live : (n : ℕ) (serials : List ℕ) (live : List Session) → IsLive n (without_sessions serials live) → IsLive n live
was_live n serials [] l = l
was_live n serials (x ∷ live) l =
    elim (cases_Bool (x.serial == n)) [
      | inl hit ↦ rw hit refl
      | inr miss ↦
          elim (cases_Bool (is_left serials x)) [
            | inl stays ↦ rw miss (was_live n serials live (rw (stays, miss) at l))
            | inr goes ↦ rw miss (was_live n serials live (rw goes at l))
          ]
    ]

-- ---- subscriptions stay in order beside sessions

module _ (n : ℕ) (f : Session → Session) (k : KeepsIdAndClient f) where
  pub live_changed : (m : ℕ) (live : List Session) → IsLive m live → IsLive m (change n f live)
  live_changed m live l =
      let there = some_is (session_with_serial m live) l in
      is_some_of (session_with_serial m (change n f live)) (changed_one n f there.0) (found_changed n f k m live there.0 there.1)

pub live_first : (again : Bool) (n moment m : ℕ) (live : List Session) → IsLive m live → IsLive m (first_renewed again n moment live)
live_first true n moment m live l = l
live_first false n moment m live l = live_changed n (with_last moment) (renewed_keeps moment) m live l

pub live_begun : (m : ℕ) (live : List Session) (s : Session) → IsLive m live → IsLive m (live ++ s ∷ [])
live_begun m live s l =
    let there = some_is (session_with_serial m live) l in
    is_some_of (session_with_serial m (live ++ s ∷ [])) there.0 (found_beside_begun m live s there.0 there.1)

-- with sessions of which none is missing that subscriptions are of
pub ordered_by : (old new : List Session) (standing : List Standing) → AreOrdered old standing
    → AllByRecursion (λ (x : Standing). IsLive x.serial new) standing → AreOrdered new standing
ordered_by old new standing o live = record { rising = o.rising; live = live; few = o.few }

pub ordered_moved : (old new : List Session) → ((m : ℕ) → IsLive m old → IsLive m new) → (standing : List Standing)
    → AreOrdered old standing → AreOrdered new standing
ordered_moved old new moves standing o =
    ordered_by old new standing o (all_weaker (λ (x : Standing). IsLive x.serial old) (λ (x : Standing). IsLive x.serial new)
    (λ x l. moves x.serial l) standing o.live)

-- where a session ends that has no subscription
pub ordered_beside : (n : ℕ) (live : List Session) (standing : List Standing) → AllByRecursion (λ (x : Standing). x.serial ≢ n) standing
    → AreOrdered live standing → AreOrdered (without_sessions (n ∷ []) live) standing
ordered_beside n live standing bare o =
    ordered_by live (without_sessions (n ∷ []) live) standing o (all_two (λ (x : Standing). x.serial ≢ n)
    (λ (x : Standing). IsLive x.serial live) (λ (x : Standing). IsLive x.serial (without_sessions (n ∷ []) live))
    (λ x other l. live_beside n x.serial live (is_other x.serial n other) l) standing bare o.live)

-- whose subscriptions are those that stand
pub bare_stays : (n : ℕ) (standing : List Standing) → AllByRecursion (λ (x : Standing). x.serial ≢ n) standing
    → without_standing (n ∷ []) (map standing_of standing) ≡ map standing_of standing
bare_stays n [] bare = refl
bare_stays n (x ∷ xs) bare =
    let other : (n == x.serial) ≡ false = is_other n x.serial (λ e. bare.0 (sym e)) in
    rw other (ap (λ t. standing_of x ∷ t) (bare_stays n xs bare.1))

pub former_ordered : (former : Option ℕ) (live : List Session) (standing : List Standing)
    → IfSome former (λ n. AllByRecursion (λ (x : Standing). x.serial ≢ n) standing) → AreOrdered live standing
    → AreOrdered (after_former former live) standing
former_ordered None live standing bare o = o
former_ordered (Some n) live standing bare o = ordered_beside n live standing bare o
