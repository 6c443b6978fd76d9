-- Subscriptions are told of a change that is out, and their news are queued: what is pending then is what the machine tells.
-- First what a telling leaves of a session (`told_serial`, `told_limit`, `overflow_within`), and that a session which is not left is told
-- nothing (`within_all`). Then, of subscriptions that were told (`HasNews`): what is queued for a session (`queued_is_told`), which stand
-- (`stand`), what the sessions have to tell (`tell_each`), whose queue is overrun (`overrun_one`), and all of it together (`is_told`).
use Rattle.std.proofs.Common.{◌≡◌, ◌≢◌, inl, inr, ℕ, ◌≤◌, ◌==◌, nat_lt, Bool, true, false, not, ◌||◌, ◌&&◌, Option, Some, None, List, [], ◌∷◌, length, map, flat_map, slice_get, refl, ap, ◌∙◌, sym, subst, arith}
use Rattle.ifmap_tellings.specs.KeptPlaces.{kept_all}
use Rattle.std.proofs.lemmas.Bool.{cases_Bool, eqb-true}
use Rattle.std.proofs.lemmas.Bool.Decides.{nat_tests}
use Rattle.std.proofs.lemmas.List.{length-map}
use Rattle.std.proofs.lemmas.Option.{same_Some}
use Rattle.std.specs.BTreeMap.{get}
use Rattle.std.specs.List.{AllByRecursion, filter, list_any, zip}
use Rattle.std.specs.Option.{IsSome}
use Rattle.std.specs.Ordering.{nat_cmp}
use Rattle.ifmap_lemmas.specs.AnyOf.{any_alike, any_of_both, any_of_map}
use Rattle.ifmap_lemmas.specs.Filters.{all_filter, all_weaker, filter_alike, map_filter}
use Rattle.ifmap_lemmas.specs.Flags.{kept_later, flags_stay}
use Rattle.ifmap_lemmas.specs.Having.{Has, filter_has, has_filter, has_map, all_has, has_all}
use Rattle.ifmap_lemmas.specs.Mapped.{alike_maps, map_twice, mapped_long, maps_alike, some_joined, zip_mapped}
use Rattle.ifmap_lemmas.specs.Members.{map_of_all}
use Rattle.ifmap_tellings.specs.ifmap_delta.SeenViews.{IsUpToDate}
use Rattle.ifmap_tellings.specs.ifmap_delta.SameSearches.{HasSameSearch}
use Rattle.ifmap_tellings.specs.ifmap_machine.State as machine
use Rattle.ifmap_tellings.specs.ifmap_machine.Telling.{is_overfull, is_overrun, is_too_big, overflow_session, tell_session, told_in_session, told_to}
use Rattle.ifmap_graph.specs.ifmap_plans.declared.plans.Note.{Note}
use Rattle.ifmap_tellings.specs.ifmap_session.Sessions.{IsLive, Session, SessionTable, spare_of, without_sessions}
use Rattle.ifmap_tellings.specs.ifmap_standing.declared.standing.Standing.{Standing}
use Rattle.ifmap_tellings.specs.ifmap_standing.declared.telling.News.{News}
use Rattle.ifmap_tellings.specs.ifmap_standing.Kept.{AtEach, StaysRelated}
use Rattle.ifmap_tellings.specs.ifmap_standing.News.{news_of_each, news_where}
use Rattle.ifmap_tellings.specs.ifmap_standing.Standing.{standing_of}
use Rattle.ifmap_graph.specs.ifmap_view.declared.attachments.Attachment.{Attachment}
use Rattle.ifmap_graph.specs.Seen.{rows_next, rows_now}
use Rattle.ifmap_tellings.specs.declared.tellings.Pending.{Pending}
use Rattle.ifmap_tellings.specs.declared.tellings.Telling.{Telling}
use Rattle.ifmap_tellings.specs.Tellings.{AllKept, AloneAreBare, AreWide, CanTell, EachTelling, HasSameSessions, IsSized, IsWide, SkipsGone, count_told, flags_since, flags_of_alone, is_alone, kept_items, items_for, tell_by, tell_if}
use Rattle.ifmap_changes.specs.declared.parts.Parts.{Parts}
use Rattle.ifmap_changes.specs.Between.{Asking, IsSoundSoFar, IsWithinLimit, sessions_left}
use Rattle.ifmap_changes.specs.Changes.{IsTold, seen_next}
use Rattle.ifmap_changes.proofs.Settling.{same_ordered, same_shown}
use Rattle.ifmap_changes.proofs.Flags.{kept_made, kept_flagged, queued_made, skip_made}
use Rattle.ifmap_tellings.specs.ifmap_session.laws.TableLaws.{left_live}
use Rattle.ifmap_tellings.specs.ToldLaws.{told_serial, map_kept}

-- ---- a telling and a session

-- what overflows is within a limit that one error is within
pub overflow_within : (s : Session) → IsWide s.limit → IsWithinLimit (overflow_session s)
overflow_within s wide = elim (cases_Bool (is_overfull s)) [
  | inl over ↦
      let one : nat_lt s.limit 100 ≡ false = grind (arith, nat_tests, wide)
      in rw over (record { full = one; wide = wide })
  | inr fits ↦ rw fits (record { full = fits; wide = wide })
]

-- what is found by a serial passes the test of a filter, where it stands in what the filter leaves
live_passes : (p : ℕ → Bool) (n : ℕ) (live : List Session) → IsLive n (filter (λ (s : Session). p s.serial) live) → p n ≡ true
live_passes p n [] l = let wrong : false ≡ true = l in cc
live_passes p n (s ∷ live) l = elim (cases_Bool (p s.serial)) [
  | inl stays ↦ elim (cases_Bool (s.serial == n)) [
    | inl hit ↦ ap p (sym (eqb-true s.serial n hit)) ∙ stays
    | inr miss ↦ live_passes p n live (rw miss at (rw stays at l))
  ]
  | inr goes ↦ live_passes p n live (rw goes at l)
]

-- which sessions are left
abbrev pub stays_in : Asking → ℕ → Bool
stays_in a n = not (list_any (λ m. m == n) a.ended)

-- a session with a serial that is found
pub live_has : (n : ℕ) (live : List Session) → IsLive n live → list_any (λ (s : Session). s.serial == n) live ≡ true
live_has n [] l = l
live_has n (s ∷ live) l = elim (cases_Bool (s.serial == n)) [
  | inl hit ↦ rw hit refl
  | inr miss ↦ rw miss (live_has n live (rw miss at l))
]

-- ---- before the news are queued

module _ {a : Asking} {old : Parts} {before : Pending} (ready : IsSoundSoFar a old before) where
  untold : (s : Session) → stays_in a s.serial ≡ false → tell_by before.tellings s ≡ s
  untold s goes = by (get nat_cmp before.tellings s.serial) refl
    where
      by : (o : Option Telling) → get nat_cmp before.tellings s.serial ≡ o → tell_if o s ≡ s
      by None is = refl
      by (Some t) is =
          let stays : stays_in a s.serial ≡ true = live_passes (stays_in a) s.serial old.sessions.live (ready.can_tell s.serial t is).live
          in let wrong : true ≡ false = sym stays ∙ goes
          in cc

  pub within_all : AllByRecursion (λ s. is_overfull s ≡ false) (map (tell_by before.tellings) old.sessions.live)
  within_all = map_of_all (λ s. is_overfull s ≡ false) (tell_by before.tellings) old.sessions.live
      (has_all (λ s. is_overfull (tell_by before.tellings s) ≡ false) old.sessions.live one)
    where
      one : (s : Session) → Has old.sessions.live s → is_overfull (tell_by before.tellings s) ≡ false
      one s there = elim (cases_Bool (stays_in a s.serial)) [
        | inl stays ↦ (all_has IsWithinLimit (map (tell_by before.tellings) (sessions_left a old.sessions)) ready.within
            (tell_by before.tellings s)
            (has_map (tell_by before.tellings) (sessions_left a old.sessions) s
            (has_filter (λ (t : Session). stays_in a t.serial) old.sessions.live s there stays))).full
        | inr goes ↦ subst (λ t. is_overfull t ≡ false) (sym (untold s goes))
            (all_has IsWithinLimit old.sessions.live ready.queues s there).full
      ]

  pub can_tell_all : EachTelling (CanTell old.sessions) before.tellings
  can_tell_all n t is =
      let can = ready.can_tell n t is
      in record { live = left_live (λ (s : Session). stays_in a s.serial) n old.sessions.live can.live; room = can.room }

  pub wide_all : AreWide old.sessions.live
  wide_all = has_all (λ s. IsWide s.limit) old.sessions.live
      (λ s there. (all_has IsWithinLimit old.sessions.live ready.queues s there).wide)

-- what holds of each that is shown
pub all_shown : (P : machine.Standing → Type 0) (xs : List Standing) → AllByRecursion (λ x. P (standing_of x)) xs
    → AllByRecursion P (map standing_of xs)
all_shown P xs h = map_of_all P standing_of xs h

-- ---- the news of a change

-- the subscriptions were told of a change, and these are their news
pub record HasNews (a : Asking) (old : Parts) (before : Pending) (notes : List Note) (stand_now : List Standing)
    (news : List News) : Type 0 where
  pub ready : IsSoundSoFar a old before
  pub same : AtEach (λ _. StaysRelated HasSameSearch) old.standing.items stand_now
  pub are_news : news ≡ news_of_each (rows_now old.graph) (rows_next old.graph) notes before.gone.items (map standing_of old.standing.items)

module _ {a : Asking} {old : Parts} {before : Pending} {notes : List Note} {stand_now : List Standing} {news : List News}
    (known : HasNews a old before notes stand_now news) where
  abbrev rows : List Attachment
  rows = rows_now old.graph

  abbrev next : List Attachment
  next = rows_next old.graph

  abbrev gone_flags : List Bool
  gone_flags = before.gone.items

  abbrev ys : List machine.Standing
  ys = map standing_of old.standing.items

  -- those that are not gone
  abbrev those : List machine.Standing
  those = map standing_of (kept_items gone_flags old.standing.items)

  -- the sessions that are left
  abbrev lives : List Session
  lives = sessions_left a old.sessions

  shown_now : map standing_of stand_now ≡ ys
  shown_now = same_shown old.standing.items stand_now known.same

  pub flags_now : length gone_flags ≡ length stand_now
  flags_now = known.ready.flags ∙ sym known.same.long

  pub long_news : length news ≡ length stand_now
  long_news = ap length known.are_news
      ∙ mapped_long (λ (p : Bool × machine.Standing). news_where rows next notes p.0 p.1) gone_flags ys
      (known.ready.flags ∙ sym (length-map old.standing.items standing_of))
      ∙ length-map old.standing.items standing_of ∙ sym known.same.long

  pub skips : SkipsGone gone_flags news
  skips i one e f = skip_made (news_where rows next notes) (λ (n : News). n.items) (λ y. refl) gone_flags ys i one e
      (ap (λ ns. slice_get ns i) (sym known.are_news) ∙ f)

  pub alone_now : AloneAreBare before.tellings gone_flags stand_now
  alone_now n h = kept_later (λ x. x.serial ≢ n) (λ x. x.serial ≢ n) gone_flags gone_flags old.standing.items stand_now known.ready.flags
      known.same.long (λ i x y p q other e. other (sym (known.same.at i x y p q).serial ∙ e)) (λ i e. e) (known.ready.alone n h)

  pub live_now : AllByRecursion (λ x. IsLive x.serial old.sessions.live) stand_now
  live_now = (same_ordered old.sessions.live old.standing.items stand_now known.same known.ready.ordered).live

  -- what is queued for a session
  pub queued_is_told : (n : ℕ) → items_for n stand_now news ≡ told_in_session rows next notes those n
  queued_is_told n =
      ap (items_for n stand_now) known.are_news
      ∙ zip_mapped standing_of (λ y. y.serial == n) (λ (one : News). one.items) stand_now (news_of_each rows next notes gone_flags ys)
      ∙ ap (λ zs. flat_map (λ (p : machine.Standing × News). p.1.items)
      (filter (λ (p : machine.Standing × News). p.0.serial == n) (zip zs (news_of_each rows next notes gone_flags ys)))) shown_now
      ∙ queued_made (news_where rows next notes) (λ (one : News). one.items) (λ y. refl) (told_to rows next notes) (λ y. refl)
      (λ y. y.serial == n) gone_flags ys
      ∙ ap (λ zs. told_in_session rows next notes zs n) (sym (map_kept standing_of gone_flags old.standing.items))

  -- which stand
  stand : (alone : ℕ → Bool) (after : List Bool)
      → after ≡ map (λ (p : Bool × Standing). p.0 || alone p.1.serial) (zip (flags_since gone_flags news) stand_now)
      → map standing_of (kept_items after stand_now)
      ≡ filter (λ y. not (alone y.serial)) (filter (λ y. not (is_too_big next y.search)) those)
  stand alone after is =
      ap (λ g. map standing_of (kept_items g stand_now)) is
      ∙ ap (map standing_of) (kept_flagged (λ (x : Standing). alone x.serial) (flags_since gone_flags news) stand_now)
      ∙ map_filter standing_of (λ y. not (alone y.serial)) (kept_items (flags_since gone_flags news) stand_now)
      ∙ ap (filter (λ y. not (alone y.serial)))
      (map_kept standing_of (flags_since gone_flags news) stand_now
      ∙ ap (kept_items (flags_since gone_flags news)) shown_now
      ∙ ap (λ ns. kept_items (flags_since gone_flags ns) ys) known.are_news
      ∙ kept_made (news_where rows next notes) (λ (one : News). one.is_too_big) (λ y. is_too_big next y.search) (λ y. refl) gone_flags ys
      ∙ ap (filter (λ y. not (is_too_big next y.search))) (sym (map_kept standing_of gone_flags old.standing.items)))

  -- what a session has to tell, before it is looked at whether that is too much
  abbrev told_one : Session → Session
  told_one s = tell_session (told_in_session rows next notes those s.serial) (tell_by before.tellings s)

  -- and one that was told already, as the definition tells it
  abbrev tell_it : Session → Session
  tell_it s = tell_session (told_in_session rows next notes those s.serial) s

  tells : map tell_it (map (tell_by before.tellings) lives) ≡ map told_one lives
  tells = map_twice (tell_by before.tellings) tell_it lives ∙ alike_maps (λ s. tell_it (tell_by before.tellings s)) told_one lives
      (has_all _ lives (λ s there. ap (λ n. tell_session (told_in_session rows next notes those n) (tell_by before.tellings s))
      (told_serial (get nat_cmp before.tellings s.serial) s)))

  live_those : AllByRecursion (λ (y : machine.Standing). IsLive y.serial lives) those
  live_those = all_shown (λ y. IsLive y.serial lives) (kept_items gone_flags old.standing.items)
      (kept_all (λ x. IsLive x.serial lives) gone_flags old.standing.items known.ready.live)

  not_alone : (y : machine.Standing) → Has those y → is_alone (get nat_cmp before.tellings y.serial) ≡ false
  not_alone y there = elim (cases_Bool (is_alone (get nat_cmp before.tellings y.serial))) [
    | inl is ↦
        let bare = all_shown (λ z. z.serial ≢ y.serial) (kept_items gone_flags old.standing.items)
        (kept_all (λ x. x.serial ≢ y.serial) gone_flags old.standing.items (known.ready.alone y.serial is))
        in absurd (all_has (λ (z : machine.Standing). z.serial ≢ y.serial) those bare y there refl)
    | inr is ↦ is
  ]

  module _ (after : Pending) (sessions_now : SessionTable)
      (sessions : HasSameSessions old.sessions sessions_now)
      (told : map (tell_by after.tellings) old.sessions.live
      ≡ map (λ s. overflow_session (tell_session (items_for s.serial stand_now news) (tell_by before.tellings s))) old.sessions.live)
      (is_gone : after.gone.items ≡ flags_of_alone after.tellings (flags_since gone_flags news) stand_now)
      (overrun : (s : Session) → Has old.sessions.live s → is_alone (get nat_cmp after.tellings s.serial)
      ≡ (is_alone (get nat_cmp before.tellings s.serial)
      || is_overfull (tell_session (items_for s.serial stand_now news) (tell_by before.tellings s))))
      (brought : (n : ℕ) → IsSome (get nat_cmp after.tellings n) → get nat_cmp before.tellings n ≡ None → items_for n stand_now news ≢ [])
      (can_tell : EachTelling (CanTell sessions_now) after.tellings)
      (sized : EachTelling (λ n t. IsSized n t sessions_now.live) after.tellings)
      (bare : AloneAreBare after.tellings after.gone.items stand_now)
      (kept : AllKept (λ x. IsUpToDate (seen_next old.graph) x.subscription) gone_flags stand_now) where
    -- what the sessions have to tell
    tell_each : map (tell_by after.tellings) lives ≡ map overflow_session (map told_one lives)
    tell_each =
        alike_maps (tell_by after.tellings) (λ s. overflow_session (told_one s)) lives
        (all_filter (λ s. tell_by after.tellings s ≡ overflow_session (told_one s)) (λ (s : Session). stays_in a s.serial) old.sessions.live
        (all_weaker (λ s. tell_by after.tellings s
        ≡ overflow_session (tell_session (items_for s.serial stand_now news) (tell_by before.tellings s)))
        (λ s. tell_by after.tellings s ≡ overflow_session (told_one s))
        (λ s e. e ∙ ap (λ q. overflow_session (tell_session q (tell_by before.tellings s))) (queued_is_told s.serial)) old.sessions.live
        (maps_alike (tell_by after.tellings)
        (λ s. overflow_session (tell_session (items_for s.serial stand_now news) (tell_by before.tellings s))) old.sessions.live told)))
        ∙ sym (map_twice told_one overflow_session lives)

    abbrev is_alone_at : ℕ → Bool
    is_alone_at n = is_alone (get nat_cmp after.tellings n)

    -- whether the queue of a session is greater than its limit, of which some subscription is not gone
    overfull_is : (n : ℕ) → is_alone (get nat_cmp before.tellings n) ≡ false → (s : Session) → Has lives s → (s.serial == n) ≡ true
        → is_overfull (told_one s) ≡ is_alone_at n
    overfull_is n none s there hit =
        let is : s.serial ≡ n = eqb-true s.serial n hit
        in let one : is_alone (get nat_cmp before.tellings s.serial) ≡ false = ap (λ m. is_alone (get nat_cmp before.tellings m)) is ∙ none
        in let all = overrun s (filter_has (λ (t : Session). stays_in a t.serial) old.sessions.live s there).0
        in ap (λ q. is_overfull (tell_session q (tell_by before.tellings s))) (sym (queued_is_told s.serial))
        ∙ ap (λ b. b || is_overfull (tell_session (items_for s.serial stand_now news) (tell_by before.tellings s))) (sym one)
        ∙ sym all ∙ ap is_alone_at is

    overrun_one : (y : machine.Standing) → Has those y → is_alone_at y.serial ≡ is_overrun (map told_one lives) y
    overrun_one y there =
        let n = y.serial
        in let serials : AllByRecursion (λ (s : Session). (s.serial == n) ≡ ((told_one s).serial == n)) lives
        = has_all _ lives (λ s here. ap (λ m. m == n) (sym (told_serial (get nat_cmp before.tellings s.serial) s)))
        in let some : list_any (λ (s : Session). (told_one s).serial == n) lives ≡ true
        = sym (any_alike (λ (s : Session). s.serial == n) (λ s. (told_one s).serial == n) lives serials)
        ∙ live_has n lives (all_has (λ (z : machine.Standing). IsLive z.serial lives) those live_those y there)
        in let each : AllByRecursion (λ (s : Session). ((told_one s).serial == n) ≡ true → is_overfull (told_one s) ≡ is_alone_at n) lives
        = has_all _ lives (λ s here hit. overfull_is n (not_alone y there) s here
        (ap (λ m. m == n) (sym (told_serial (get nat_cmp before.tellings s.serial) s)) ∙ hit))
        in sym (any_of_map told_one (λ (t : Session). t.serial == n && is_overfull t) lives
        ∙ any_of_both (λ s. (told_one s).serial == n) (λ s. is_overfull (told_one s)) (is_alone_at n) lives each some)

    which_stand : map standing_of (kept_items after.gone.items stand_now)
        ≡ filter (λ y. not (is_overrun (map told_one lives) y)) (filter (λ y. not (is_too_big next y.search)) those)
    which_stand = stand is_alone_at after.gone.items is_gone
        ∙ filter_alike (λ y. not (is_alone_at y.serial)) (λ y. not (is_overrun (map told_one lives) y))
        (filter (λ y. not (is_too_big next y.search)) those)
        (has_all _ (filter (λ y. not (is_too_big next y.search)) those)
        (λ y there. ap not (overrun_one y (filter_has (λ z. not (is_too_big next z.search)) those y there).0)))

    gone_stays : (i : ℕ) → slice_get gone_flags i ≡ Some true → slice_get after.gone.items i ≡ Some true
    gone_stays i e =
        let long = mapped_long (λ (p : Bool × News). p.0 || p.1.is_too_big) gone_flags news (flags_now ∙ sym long_news)
        in ap (λ g. slice_get g i) is_gone
        ∙ flags_stay (λ (x : Standing). is_alone_at x.serial) (flags_since gone_flags news) stand_now (long ∙ long_news) i
        (flags_stay (λ (one : News). one.is_too_big) gone_flags news (flags_now ∙ sym long_news) i e)

    flags_after : length after.gone.items ≡ length stand_now
    flags_after =
        let long = mapped_long (λ (p : Bool × News). p.0 || p.1.is_too_big) gone_flags news (flags_now ∙ sym long_news)
        in ap length is_gone
        ∙ mapped_long (λ (p : Bool × Standing). p.0 || is_alone_at p.1.serial) (flags_since gone_flags news) stand_now (long ∙ long_news)

    live_told : (n : ℕ) (t : Telling) → get nat_cmp after.tellings n ≡ Some t → IsLive n lives
    live_told n t is = by (get nat_cmp before.tellings n) refl
      where
        by : (o : Option Telling) → get nat_cmp before.tellings n ≡ o → IsLive n lives
        by (Some u) was = (known.ready.can_tell n u was).live
        by None was =
            let some = brought n (subst IsSome (sym is) refl) was
            in let one = some_joined (told_to rows next notes) (λ (y : machine.Standing). y.serial == n) those
            (λ e. some (queued_is_told n ∙ e))
            in subst (λ m. IsLive m lives) (eqb-true one.0.serial n one.2)
            (all_has (λ (z : machine.Standing). IsLive z.serial lives) those live_those one.0 one.1)

    pub is_told : (new : Parts) → new.graph ≡ old.graph → new.sessions ≡ sessions_now → new.standing.items ≡ stand_now
        → IsTold a old before notes new after
    is_told new graph is_sessions is_standing =
        let lives_now : sessions_left a new.sessions ≡ lives =
        ap (λ (t : SessionTable). sessions_left a t) is_sessions ∙ ap (without_sessions a.ended) sessions.live
        in let counter : new.sessions.counter ≡ old.sessions.counter = ap (λ (t : SessionTable). t.counter) is_sessions ∙ sessions.counter
        in let all : map (tell_by after.tellings) (sessions_left a new.sessions)
        ≡ map overflow_session (map tell_it (map (tell_by before.tellings) lives))
        = ap (map (tell_by after.tellings)) lives_now ∙ tell_each ∙ ap (map overflow_session) (sym tells)
        in let which : map standing_of (kept_items after.gone.items new.standing.items)
        ≡ filter (λ y. not (is_overrun (map tell_it (map (tell_by before.tellings) lives)) y))
        (filter (λ y. not (is_too_big next y.search)) those)
        = ap (λ xs. map standing_of (kept_items after.gone.items xs)) is_standing ∙ which_stand
        ∙ ap (λ S. filter (λ y. not (is_overrun S y)) (filter (λ y. not (is_too_big next y.search)) those)) (sym tells)
        in let drafted : rows_next new.graph ≡ next = ap rows_next graph
        in record {
          state = λ i. record {
            moment = a.moment;
            ttl = a.ttl;
            counter = counter i;
            graph = drafted i;
            sessions = all i;
            standing = which i;
          };
          kept = subst (λ xs. AllKept (λ x. IsUpToDate (seen_next new.graph) x.subscription) after.gone.items xs) (sym is_standing)
              (kept_later (λ x. IsUpToDate (seen_next old.graph) x.subscription) (λ x. IsUpToDate (seen_next new.graph) x.subscription)
              gone_flags
              after.gone.items stand_now stand_now flags_now refl
              (λ i x y p q h. subst (λ h. IsUpToDate (seen_next h) y.subscription) (sym graph)
              (subst (λ (z : Standing). IsUpToDate (seen_next old.graph) z.subscription) (same_Some x y (sym p ∙ q)) h)) gone_stays kept);
          flags = flags_after ∙ ap length (sym is_standing);
          gone = gone_stays;
          can_tell = λ n t is. record {
            live = subst (IsLive n) (sym lives_now) (live_told n t is);
            room = subst (λ (table : SessionTable). count_told t ≤ spare_of n table.spare) (sym is_sessions) (can_tell n t is).room;
          };
          sized = subst (λ (table : SessionTable). EachTelling (λ n t. IsSized n t table.live) after.tellings) (sym is_sessions) sized;
          alone = subst (AloneAreBare after.tellings after.gone.items) (sym is_standing) bare;
        }
