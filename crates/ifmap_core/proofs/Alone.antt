-- A session that is told one error in place of all, and then has no subscription left.
-- 1. What it was told before does not matter to what it is then (`alone_where`).
-- 2. Of all sessions it alone changes, to one that has the error (`told_each`).
-- 3. One error is within each limit, so all queues are (`errors_fit`).
-- 4. What is known where a session is told alone is `IsToldAlone`; the state so far is then that of
--    the definition (`alone_so_far`).
-- 5. And all that was ready is ready still (`alone_ready`).
use Rattle.std.proofs.Common.{◌≡◌, ◌≢◌, refl, sym, ◌∙◌, ap, subst, ℕ, ◌≤◌, ◌==◌, true, cond, List, [], ◌∷◌, length, map, Option, Some, None, inl, inr, arith}
use Rattle.std.proofs.lemmas.Bool.{cases_Bool, eqb-false, eqb-true}
use Rattle.std.proofs.lemmas.Bool.Decides.{nat_tests}
use Rattle.std.proofs.lemmas.List.Sums.{sum_by-cons}
use Rattle.std.proofs.lemmas.Option.{same_Some}
use Rattle.std.specs.BTreeMap.{get}
use Rattle.std.specs.List.{AllByRecursion}
use Rattle.std.specs.List.Sorted.{IsStrictlySortedBy}
use Rattle.std.specs.Ordering.{nat_cmp}
use Rattle.ifmap_subscribes.specs.ifmap_changes.Between.{AreWithinLimits, Asking, IsSoundSoFar, IsWithinLimit, rest_of, sessions_left, state_now}
use Rattle.ifmap_subscribes.specs.ifmap_changes.declared.parts.Parts.{Parts}
use Rattle.ifmap_core.specs.Completions.{state_with_error}
use Rattle.ifmap_core.proofs.Places.{Rises, kept_fewer}
use Rattle.ifmap_core.proofs.Subscribed.{live_left}
use Rattle.ifmap_core.proofs.Told.{one_numbered, told_by_leaves}
use Rattle.ifmap_subscribes.specs.ifmap_graph.Seen.{rows_now}
use Rattle.ifmap_ident.specs.declared.codes.Code.TheVariants.{PollResultsTooBig}
use Rattle.ifmap_lemmas.specs.Filters.{all_filter}
use Rattle.ifmap_lemmas.specs.Options.{some_is}
use Rattle.ifmap_subscribes.specs.ifmap_machine.Ending.{without_standing}
use Rattle.ifmap_subscribes.specs.ifmap_machine.State as machine
use Rattle.ifmap_subscribes.specs.ifmap_machine.Telling.{limit_note}
use Rattle.ifmap_session.specs.ifmap_search.declared.results.PollItem.{PollItem}
use Rattle.ifmap_session.specs.ifmap_search.declared.results.PollItem.TheVariants as the_item
use Rattle.ifmap_session.specs.ifmap_search.Sizes.{poll_size, queue_size}
use Rattle.ifmap_session.specs.Sessions.{IsLive, Session, change, session_order, session_with_serial, spare_of, with_error, without_sessions}
use Rattle.ifmap_subscribes.specs.ifmap_standing.declared.standing.Standing.{Standing}
use Rattle.ifmap_subscribes.specs.ifmap_standing.Standing.{standing_of}
use Rattle.ifmap_subscribes.specs.ifmap_tellings.declared.tellings.Pending.{Pending}
use Rattle.ifmap_subscribes.specs.ifmap_tellings.declared.tellings.Telling.{Telling}
use Rattle.ifmap_subscribes.specs.ifmap_tellings.declared.tellings.Telling.TheVariants.{After, Alone}
use Rattle.ifmap_subscribes.specs.ifmap_tellings.Tellings.{AllKept, AloneAreBare, CanTell, EachTelling, HasSameSessions, IsSized, Tellings, is_alone, kept_items, tell_by, tell_if}
use Rattle.ifmap_session.specs.laws.TableLaws.{is_left}

abbrev pub error_of : ℕ → ℕ → PollItem
error_of size limit = the_item.Error None PollResultsTooBig (limit_note size limit)

-- what a session is told before does not matter
alone_where : (size : ℕ) (o : Option Telling) (s : Session)
    → with_error (error_of size (tell_if o s).limit) (tell_if o s) ≡ with_error (error_of size s.limit) s
alone_where size None s = refl
alone_where size (Some (After items n)) s = refl
alone_where size (Some (Alone error)) s = refl

module _ (n size : ℕ) (before after : Tellings) (live : List Session)
    (told : (s : Session) → session_with_serial n live ≡ Some s → get nat_cmp after n ≡ Some (Alone (error_of size s.limit)))
    (others : (m : ℕ) → m ≢ n → get nat_cmp after m ≡ get nat_cmp before m) where
  told_each : (s : Session) → session_with_serial n live ≡ Some s → (xs : List Session)
      → AllByRecursion (λ (x : Session). (x.serial == n) ≡ true → x ≡ s) xs
      → map (tell_by after) xs ≡ change n (λ (x : Session). with_error (error_of size x.limit) x) (map (tell_by before) xs)
  told_each s found [] one = refl
  told_each s found (x ∷ xs) one =
      let number : ((tell_by before x).serial == n) ≡ (x.serial == n) = ap (λ (m : ℕ). m == n) (told_by_leaves before x).serial in
      elim (cases_Bool (x.serial == n)) [
        | inl hit ↦
            let limit : s.limit ≡ x.limit = ap (λ (y : Session). y.limit) (sym (one.0 hit)) in
            let there : tell_by after x ≡ with_error (error_of size x.limit) x =
            ap (λ (m : ℕ). tell_if (get nat_cmp after m) x) (eqb-true x.serial n hit)
            ∙ ap (λ (o : Option Telling). tell_if o x) (told s found ∙ ap (λ (k : ℕ). Some (Alone (error_of size k))) limit) in
            let here : cond ((tell_by before x).serial == n) (with_error (error_of size (tell_by before x).limit) (tell_by before x))
            (tell_by before x)
            ≡ with_error (error_of size x.limit) x =
            ap (λ b. cond b (with_error (error_of size (tell_by before x).limit) (tell_by before x)) (tell_by before x)) (number ∙ hit)
            ∙ alone_where size (get nat_cmp before x.serial) x in
            ap (λ t. t ∷ map (tell_by after) xs) (there ∙ sym here)
            ∙ ap (λ ts. cond ((tell_by before x).serial == n) (with_error (error_of size (tell_by before x).limit) (tell_by before x))
            (tell_by before x) ∷ ts) (told_each s found xs one.1)
        | inr miss ↦
            let there : tell_by after x ≡ tell_by before x =
            ap (λ (o : Option Telling). tell_if o x) (others x.serial (eqb-false x.serial n miss)) in
            let here : cond ((tell_by before x).serial == n) (with_error (error_of size (tell_by before x).limit) (tell_by before x))
            (tell_by before x)
            ≡ tell_by before x =
            ap (λ b. cond b (with_error (error_of size (tell_by before x).limit) (tell_by before x)) (tell_by before x)) (number ∙ miss) in
            ap (λ t. t ∷ map (tell_by after) xs) (there ∙ sym here)
            ∙ ap (λ ts. cond ((tell_by before x).serial == n) (with_error (error_of size (tell_by before x).limit) (tell_by before x))
            (tell_by before x) ∷ ts) (told_each s found xs one.1)
      ]

-- one error is within each limit
error_fits : (size : ℕ) (s : Session) → IsWithinLimit s → IsWithinLimit (with_error (error_of size s.limit) s)
error_fits size s w =
    let sum = sum_by-cons poll_size (error_of size s.limit) [] in
    let few : queue_size (error_of size s.limit ∷ []) ≤ s.limit = omega (arith, sum, w.wide) in
    record { full = grind (arith, nat_tests, few); wide = w.wide }

errors_fit : (n size : ℕ) (live : List Session) → AreWithinLimits live
    → AreWithinLimits (change n (λ (x : Session). with_error (error_of size x.limit) x) live)
errors_fit n size [] h = tt
errors_fit n size (x ∷ live) h =
    elim (cases_Bool (x.serial == n)) [
      | inl hit ↦ rw hit (error_fits size x h.0, errors_fit n size live h.1)
      | inr miss ↦ rw miss (h.0, errors_fit n size live h.1)
    ]

-- a session that is left was told one error in place of all, and what the others are told stays
pub record IsToldAlone (a : Asking) (old new : Parts) (before after : Pending) (n size : ℕ) : Type 0 where
  pub up : IsStrictlySortedBy session_order old.sessions.live
  pub live : IsLive n (sessions_left a old.sessions)
  pub rows : new.graph ≡ old.graph
  pub standing : new.standing.items ≡ old.standing.items
  pub sessions : HasSameSessions old.sessions new.sessions
  pub told : (s : Session) → session_with_serial n old.sessions.live ≡ Some s
      → get nat_cmp after.tellings n ≡ Some (Alone (error_of size s.limit))
  pub others : (m : ℕ) → m ≢ n → get nat_cmp after.tellings m ≡ get nat_cmp before.tellings m

module _ {a : Asking} {old new : Parts} {before after : Pending} {n size : ℕ} (h : IsToldAlone a old new before after n size) where
  there : (s : Session) × (session_with_serial n old.sessions.live ≡ Some s)
  there = some_is (session_with_serial n old.sessions.live) (live_left a n old.sessions h.live)

  told_now : map (tell_by after.tellings) (sessions_left a new.sessions)
      ≡ change n (λ (x : Session). with_error (error_of size x.limit) x) (map (tell_by before.tellings) (sessions_left a old.sessions))
  told_now =
      ap (λ (l : List Session). map (tell_by after.tellings) (without_sessions a.ended l)) h.sessions.live
      ∙ told_each n size before.tellings after.tellings old.sessions.live h.told h.others there.0 there.1 (sessions_left a old.sessions)
      (all_filter (λ (x : Session). (x.serial == n) ≡ true → x ≡ there.0) (is_left a.ended) old.sessions.live
      (one_numbered n old.sessions.live there.0 h.up there.1))

  pub alone_so_far : map standing_of (kept_items after.gone.items old.standing.items)
      ≡ without_standing (n ∷ []) (map standing_of (kept_items before.gone.items old.standing.items))
      → state_now a new after ≡ state_with_error n size (state_now a old before)
  alone_so_far gone =
      ap (λ (k : ℕ). record (state_now a new after) { counter = k }) h.sessions.counter
      ∙ ap (λ g. record (state_now a new after) { counter = old.sessions.counter; graph = rows_now g }) h.rows
      ∙ ap (λ (l : List Session). record (state_now a old after) {
        sessions = l;
        standing = map standing_of
            (kept_items after.gone.items new.standing.items);
      }) told_now
      ∙ ap (λ (xs : List Standing). record (state_with_error n size (state_now a old before)) {
        standing = map standing_of
            (kept_items after.gone.items xs);
      }) h.standing
      ∙ ap (λ (xs : List machine.Standing). record (state_with_error n size (state_now a old before)) { standing = xs }) gone

  pub alone_ready : IsSoundSoFar a old before → length after.gone.items ≡ length old.standing.items → Rises before.gone.items
      after.gone.items
      → AllKept (λ (x : Standing). x.serial ≢ n) after.gone.items old.standing.items → 1 ≤ spare_of n new.sessions.spare
      → IsSoundSoFar a new after
  alone_ready r flags more bare room =
      let long : length after.gone.items ≡ length before.gone.items = flags ∙ sym r.flags in
      record {
        ended = rw (h.sessions.live) r.ended;
        ordered = rw (h.sessions.live, h.standing) r.ordered;
        flags = rw (h.standing) flags;
        kept = rw (h.rows, h.standing) (kept_fewer _ before.gone.items after.gone.items old.standing.items long more r.kept);
        live = rw (h.sessions.live, h.standing) (kept_fewer _ before.gone.items after.gone.items old.standing.items long more r.live);
        queues = rw (h.sessions.live) r.queues;
        within = subst AreWithinLimits (sym told_now)
            (errors_fit n size (map (tell_by before.tellings) (sessions_left a old.sessions)) r.within);
        can_tell = can_each r;
        sized = sized_each r;
        alone = rw (h.standing) (alone_each r long more bare);
      }
    where
      can_each : IsSoundSoFar a old before → EachTelling (CanTell (rest_of a new.sessions)) after.tellings
      can_each r m t e =
          elim (cases_Bool (m == n)) [
            | inl hit ↦
                let here : m ≡ n = eqb-true m n hit in
                let is : Alone (error_of size there.0.limit) ≡ t =
                same_Some _ t (sym (h.told there.0 there.1) ∙ ap (get nat_cmp after.tellings) (sym here) ∙ e) in
                subst (λ (k : ℕ). CanTell (rest_of a new.sessions) k t) (sym here)
                (subst (λ (u : Telling). CanTell (rest_of a new.sessions) n u) is (record {
                  live = subst (λ (l : List Session). IsLive n (without_sessions a.ended l)) (sym h.sessions.live) h.live;
                  room = room;
                }))
            | inr miss ↦
                let was = r.can_tell m t (sym (h.others m (eqb-false m n miss)) ∙ e) in
                record {
                  live = subst (λ (l : List Session). IsLive m (without_sessions a.ended l)) (sym h.sessions.live) was.live;
                  room = omega (arith, was.room, h.sessions.spare m);
                }
          ]

      sized_each : IsSoundSoFar a old before → EachTelling (λ m t. IsSized m t new.sessions.live) after.tellings
      sized_each r m t e =
          elim (cases_Bool (m == n)) [
            | inl hit ↦
                let here : m ≡ n = eqb-true m n hit in
                let is : Alone (error_of size there.0.limit) ≡ t =
                same_Some _ t (sym (h.told there.0 there.1) ∙ ap (get nat_cmp after.tellings) (sym here) ∙ e) in
                subst (λ (u : Telling). IsSized m u new.sessions.live) is (limit_note size there.0.limit, refl)
            | inr miss ↦ rw (h.sessions.live) (r.sized m t (sym (h.others m (eqb-false m n miss)) ∙ e))
          ]

      alone_each : IsSoundSoFar a old before → length after.gone.items ≡ length before.gone.items → Rises before.gone.items after.gone.items
          → AllKept (λ (x : Standing). x.serial ≢ n) after.gone.items old.standing.items
          → AloneAreBare after.tellings after.gone.items old.standing.items
      alone_each r long more bare m e =
          elim (cases_Bool (m == n)) [
            | inl hit ↦
                subst (λ (k : ℕ). AllKept (λ (x : Standing). x.serial ≢ k) after.gone.items old.standing.items)
                (sym (eqb-true m n hit)) bare
            | inr miss ↦
                kept_fewer (λ (x : Standing). x.serial ≢ m) before.gone.items after.gone.items old.standing.items long more
                (r.alone m (ap is_alone (sym (h.others m (eqb-false m n miss))) ∙ e))
          ]
