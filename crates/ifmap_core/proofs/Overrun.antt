-- Queues that are greater than their limit, or not.
-- 1. Where none is, nothing overflows (`no_overflow`).
-- 2. One session has another queue, which is within its limit, so that all are (`changed_within`).
-- 3. Where it is not, its session and its subscriptions alone overflow (`over_sessions`,
--    `over_standing`), so the session is told one error in place of all (`over_is`).
-- 4. Subscriptions whose serials do not fall stay so as one is put in or dropped (`grows_put`).
-- 5. So renamings in a session leave the subscriptions of the others (`others_renamed`).
use Rattle.std.proofs.Common.{◌≡◌, refl, sym, ◌∙◌, ap, ℕ, ◌<◌, ◌≤◌, ◌==◌, ◌&&◌, Bool, true, false, not, List, [], ◌∷◌, ◌++◌, map, Option, Some, None, inl, inr, arith}
use Rattle.std.proofs.Math.Bool.{or-false}
use Rattle.std.proofs.lemmas.Bool.{and_right, cases_Bool, cases_order, eq-eqb, eqb-true}
use Rattle.std.proofs.lemmas.Bool.Decides.{nat_tests}
use Rattle.std.proofs.lemmas.List.Elements.{filter-append, filter_agree}
use Rattle.std.specs.Cmp.Lexicographic.{slice_cmp}
use Rattle.std.specs.List.{AllByRecursion, filter, list_any}
use Rattle.std.specs.List.Sorted.{IsStrictlySortedBy}
use Rattle.std.specs.Option.{option_to_list}
use Rattle.std.specs.Ordering.{is_gt, is_lt, nat_cmp}
use Rattle.std.specs.declared.cmp.Ordering.TheVariants.{Less, Greater}
use Rattle.ifmap_core.specs.Completions.{state_with_error}
use Rattle.ifmap_core.proofs.Told.{one_numbered}
use Rattle.ifmap_ident.specs.declared.codes.Code.TheVariants.{PollResultsTooBig}
use Rattle.ifmap_lemmas.specs.Filters.{all_around, all_filter, all_weaker, filter_none, filter_passes}
use Rattle.ifmap_lemmas.specs.Tests.{not_above_before, not_below_after}
use Rattle.ifmap_subscribes.specs.ifmap_machine.Ending.{without_standing}
use Rattle.ifmap_subscribes.specs.ifmap_machine.State as machine
use Rattle.ifmap_subscribes.specs.ifmap_machine.State.{State, standing_order}
use Rattle.ifmap_subscribes.specs.ifmap_machine.Step.{with_told}
use Rattle.ifmap_subscribes.specs.ifmap_machine.Subscribing.{Told, drop_name, is_of_name}
use Rattle.ifmap_subscribes.specs.ifmap_machine.Telling.{is_overfull, is_overrun, limit_note, overflow, overflow_session, with_queue}
use Rattle.ifmap_subscribes.specs.ifmap_plans.Placing.{put}
use Rattle.ifmap_session.specs.ifmap_search.declared.results.PollItem.{PollItem}
use Rattle.ifmap_session.specs.ifmap_search.declared.results.PollItem.TheVariants as the_item
use Rattle.ifmap_session.specs.ifmap_search.Sizes.{queue_size}
use Rattle.ifmap_session.specs.Sessions.{Session, change, session_order, session_with_serial, with_error}
use Rattle.ifmap_subscribes.specs.ifmap_standing.declared.standing.Standing.{Standing}
use Rattle.ifmap_subscribes.specs.ifmap_standing.Standing.{standing_of}
use Rattle.ifmap_subscribes.specs.declared.renamings.Renaming.{Renaming}
use Rattle.ifmap_subscribes.specs.Renamings.{IsOfSession, rename, rename_all, stand_where}

-- ---- nothing overflows

abbrev pub IsFit : Session → Type 0
IsFit s = is_overfull s ≡ false

none_overrun : (x : machine.Standing) (live : List Session) → AllByRecursion IsFit live → is_overrun live x ≡ false
none_overrun x [] h = refl
none_overrun x (s ∷ live) h =
    let no : (s.serial == x.serial && is_overfull s) ≡ false = and_right (s.serial == x.serial) (is_overfull s) h.0 in
    rw no (none_overrun x live h.1)

none_overflow : (live : List Session) → AllByRecursion IsFit live → map overflow_session live ≡ live
none_overflow [] h = refl
none_overflow (s ∷ live) h = rw (h.0) (ap (λ t. s ∷ t) (none_overflow live h.1))

all_stay : (live : List Session) → AllByRecursion IsFit live → (xs : List machine.Standing)
    → filter (λ x. not (is_overrun live x)) xs ≡ xs
all_stay live h [] = refl
all_stay live h (x ∷ xs) = rw (none_overrun x live h) (ap (λ t. x ∷ t) (all_stay live h xs))

pub no_overflow : (state : State) → AllByRecursion IsFit state.sessions → overflow state ≡ state
no_overflow state h =
    ap (λ (ss : List Session). record state { sessions = ss; standing = filter (λ x. not (is_overrun state.sessions x)) state.standing })
    (none_overflow state.sessions h)
    ∙ ap (λ (xs : List machine.Standing). record state { standing = xs }) (all_stay state.sessions h state.standing)

-- ---- one session has another queue

abbrev IsOne : ℕ → Session → Session → Type 0
IsOne n s x = (x.serial == n) ≡ true → x ≡ s

pub changed_within : (n : ℕ) (q : List PollItem) (s : Session) → queue_size q ≤ s.limit → (live : List Session)
    → AllByRecursion (IsOne n s) live → AllByRecursion IsFit live → AllByRecursion IsFit (change n (with_queue q) live)
changed_within n q s few [] one h = tt
changed_within n q s few (x ∷ live) one h =
    elim (cases_Bool (x.serial == n)) [
      | inl hit ↦
          let limit : x.limit ≡ s.limit = ap (λ (t : Session). t.limit) (one.0 hit) in
          let fits : is_overfull (with_queue q x) ≡ false = grind (arith, nat_tests, few, limit) in
          rw hit (fits, changed_within n q s few live one.1 h.1)
      | inr miss ↦ rw miss (h.0, changed_within n q s few live one.1 h.1)
    ]

over_sessions : (n : ℕ) (q : List PollItem) (s : Session) → s.limit < queue_size q → (live : List Session)
    → AllByRecursion (IsOne n s) live → AllByRecursion IsFit live
    → map overflow_session (change n (with_queue q) live)
    ≡ change n (λ (t : Session). with_error (the_item.Error None PollResultsTooBig (limit_note (queue_size q) t.limit)) t) live
over_sessions n q s many [] one h = refl
over_sessions n q s many (x ∷ live) one h =
    elim (cases_Bool (x.serial == n)) [
      | inl hit ↦
          let limit : x.limit ≡ s.limit = ap (λ (t : Session). t.limit) (one.0 hit) in
          let full : is_overfull (with_queue q x) ≡ true = grind (arith, nat_tests, many, limit) in
          rw (hit, full) (ap (λ t. with_error (the_item.Error None PollResultsTooBig (limit_note (queue_size q) x.limit)) x ∷ t)
          (over_sessions n q s many live one.1 h.1))
      | inr miss ↦ rw (miss, h.0) (ap (λ t. x ∷ t) (over_sessions n q s many live one.1 h.1))
    ]

-- of which a subscription is overrun
over_standing : (n : ℕ) (q : List PollItem) (s : Session) → s.limit < queue_size q → (x : machine.Standing) (live : List Session)
    → AllByRecursion (IsOne n s) live → AllByRecursion IsFit live → session_with_serial n live ≡ Some s
    → is_overrun (change n (with_queue q) live) x ≡ (n == x.serial)
over_standing n q s many x [] one h found = cc
over_standing n q s many x (y ∷ live) one h found =
    elim (cases_Bool (y.serial == n)) [
      | inl hit ↦
          let limit : y.limit ≡ s.limit = ap (λ (t : Session). t.limit) (one.0 hit) in
          let full : is_overfull (with_queue q y) ≡ true = grind (arith, nat_tests, many, limit) in
          let same : (y.serial == x.serial) ≡ (n == x.serial) = ap (λ (m : ℕ). m == x.serial) (eqb-true y.serial n hit) in
          elim (cases_Bool (n == x.serial)) [
            | inl own ↦ rw (hit, full, same, own) refl
            | inr off ↦ rw (hit, full, same, off) (never off live h.1)
          ]
      | inr miss ↦
          let none : (y.serial == x.serial && is_overfull y) ≡ false = and_right (y.serial == x.serial) (is_overfull y) h.0 in
          rw (miss, none) (over_standing n q s many x live one.1 h.1 (rw miss at found))
    ]
  where
    never : (n == x.serial) ≡ false → (ys : List Session) → AllByRecursion IsFit ys → is_overrun (change n (with_queue q) ys) x ≡ false
    never apart [] k = refl
    never apart (z ∷ ys) k = elim (cases_Bool (z.serial == n)) [
      | inl at ↦
          let differ : (z.serial == x.serial) ≡ false = ap (λ (m : ℕ). m == x.serial) (eqb-true z.serial n at) ∙ apart in
          rw (at, differ) (never apart ys k.1)
      | inr off ↦
          let none : (z.serial == x.serial && is_overfull z) ≡ false = and_right (z.serial == x.serial) (is_overfull z) k.0 in
          rw (off, none) (never apart ys k.1)
    ]

pub over_is : (n : ℕ) (state : State) (s : Session) (t : Told) → IsStrictlySortedBy session_order state.sessions
    → session_with_serial n state.sessions ≡ Some s → AllByRecursion IsFit state.sessions → s.limit < queue_size t.queue
    → without_standing (n ∷ []) t.standing ≡ without_standing (n ∷ []) state.standing
    → overflow (with_told n t state) ≡ state_with_error n (queue_size t.queue) state
over_is n state s t up found fit many others =
    let one = one_numbered n state.sessions s up found in
    let full : List Session = change n (with_queue t.queue) state.sessions in
    ap (λ (ss : List Session). record state { sessions = ss; standing = filter (λ x. not (is_overrun full x)) t.standing })
    (over_sessions n t.queue s many state.sessions one fit)
    ∙ ap (λ (xs : List machine.Standing). record (state_with_error n (queue_size t.queue) state) { standing = xs })
    (filter_agree (λ x. not (is_overrun full x)) (λ (x : machine.Standing). not (list_any (λ m. m == x.serial) (n ∷ [])))
    (λ x. ap not (over_standing n t.queue s many x state.sessions one fit found ∙ sym (or-false (n == x.serial)))) t.standing ∙ others)

-- ---- the subscriptions of others

-- serials do not fall
abbrev pub Grows : List machine.Standing → Type 0
Grows [] = Unit {0}
Grows (x ∷ xs) = AllByRecursion (λ (y : machine.Standing). x.serial ≤ y.serial) xs × Grows xs

grows_filter : (p : machine.Standing → Bool) (xs : List machine.Standing) → Grows xs → Grows (filter p xs)
grows_filter p [] g = tt
grows_filter p (x ∷ xs) g =
    elim (cases_Bool (p x)) [
      | inl hit ↦ rw hit (all_filter (λ (y : machine.Standing). x.serial ≤ y.serial) p xs g.0, grows_filter p xs g.1)
      | inr miss ↦ rw miss (grows_filter p xs g.1)
    ]

grows_around : (xs : List machine.Standing) (m : machine.Standing) (ys : List machine.Standing) → Grows xs
    → AllByRecursion (λ (x : machine.Standing). x.serial ≤ m.serial) xs → Grows ys
    → AllByRecursion (λ (y : machine.Standing). m.serial ≤ y.serial) ys → Grows (xs ++ m ∷ ys)
grows_around [] m ys g low h high = (high, h)
grows_around (x ∷ xs) m ys g low h high = (
  all_around (λ (y : machine.Standing). x.serial ≤ y.serial) xs m ys g.0 low.0
      (all_weaker (λ (y : machine.Standing). m.serial ≤ y.serial) (λ (y : machine.Standing). x.serial ≤ y.serial)
      (λ y above. omega (arith, above, low.0)) ys high),
  grows_around xs m ys g.1 low.1 h high,
)

grows_put : (m : machine.Standing) (xs : List machine.Standing) → Grows xs → Grows (put standing_order m xs)
grows_put m xs g =
    grows_around (filter (λ y. is_lt (standing_order y m)) xs) m (filter (λ y. is_gt (standing_order y m)) xs)
    (grows_filter (λ y. is_lt (standing_order y m)) xs g)
    (all_weaker (λ y. is_lt (standing_order y m) ≡ true) (λ (x : machine.Standing). x.serial ≤ m.serial)
    (λ y e. not_above_before y.serial m.serial (slice_cmp nat_cmp y.name m.name) e) (filter (λ y. is_lt (standing_order y m)) xs)
    (filter_passes (λ y. is_lt (standing_order y m)) xs))
    (grows_filter (λ y. is_gt (standing_order y m)) xs g)
    (all_weaker (λ y. is_gt (standing_order y m) ≡ true) (λ (y : machine.Standing). m.serial ≤ y.serial)
    (λ y e. not_below_after y.serial m.serial (slice_cmp nat_cmp y.name m.name) e) (filter (λ y. is_gt (standing_order y m)) xs)
    (filter_passes (λ y. is_gt (standing_order y m)) xs))

module _ (n : ℕ) where
  drops_at_serial : (p : machine.Standing → Bool) (y : machine.Standing) (ys : List machine.Standing) → (n == y.serial) ≡ true
      → without_standing (n ∷ []) (filter p (y ∷ ys)) ≡ without_standing (n ∷ []) (filter p ys)
  drops_at_serial p y ys hit = elim (cases_Bool (p y)) [ inl e ↦ rw (e, hit) refl | inr e ↦ rw e refl ]

  parts_without_it : (m : machine.Standing) → m.serial ≡ n → (ys : List machine.Standing) → Grows ys
      → without_standing (n ∷ []) (filter (λ y. is_lt (standing_order y m)) ys)
      ++ without_standing (n ∷ []) (filter (λ y. is_gt (standing_order y m)) ys) ≡ without_standing (n ∷ []) ys
  parts_without_it m own [] g = refl
  parts_without_it m own (y ∷ ys) g =
      let lower : machine.Standing → Bool = λ y. is_lt (standing_order y m) in
      let upper : machine.Standing → Bool = λ y. is_gt (standing_order y m) in
      let rest = parts_without_it m own ys g.1 in
      elim (cases_order y.serial n) [
        | inl same ↦
            let hit : (n == y.serial) ≡ true = eq-eqb n y.serial (sym same) in
            let gone : without_standing (n ∷ []) (y ∷ ys) ≡ without_standing (n ∷ []) ys = rw hit refl in
            ap (λ (t : List machine.Standing). t ++ without_standing (n ∷ []) (filter upper (y ∷ ys))) (drops_at_serial lower y ys hit)
            ∙ ap (λ (t : List machine.Standing). without_standing (n ∷ []) (filter lower ys) ++ t) (drops_at_serial upper y ys hit)
            ∙ rest ∙ sym gone
        | inr apart ↦ elim apart [
          | inl less ↦
              let miss : (n == y.serial) ≡ false = grind (arith, nat_tests, less) in
              let o : nat_cmp y.serial m.serial ≡ Less = grind (arith, nat_tests, less, own) in
              rw (o, miss) (ap (λ t. y ∷ t) rest)
          | inr more ↦
              let miss : (n == y.serial) ≡ false = grind (arith, nat_tests, more) in
              let o : nat_cmp y.serial m.serial ≡ Greater = grind (arith, nat_tests, more, own) in
              let none : filter lower ys ≡ [] = filter_none lower ys (all_weaker (λ (z : machine.Standing). y.serial ≤ z.serial)
              (λ z. lower z ≡ false) (λ z above. upper_one z (omega (arith, above, more, own))) ys g.0) in
              let left : without_standing (n ∷ []) (filter upper ys) ≡ without_standing (n ∷ []) ys =
              ap (λ (t : List machine.Standing). without_standing (n ∷ []) t ++ without_standing (n ∷ []) (filter upper ys)) (sym none)
              ∙ rest in
              let first : filter lower (y ∷ ys) ≡ [] = rw o none in
              let second : filter upper (y ∷ ys) ≡ y ∷ filter upper ys = rw o refl in
              ap (λ (t : List machine.Standing). without_standing (n ∷ []) t ++ without_standing (n ∷ []) (filter upper (y ∷ ys))) first
              ∙ ap (without_standing (n ∷ [])) second ∙ rw miss (ap (λ t. y ∷ t) left)
        ]
      ]
    where
      upper_one : (z : machine.Standing) → m.serial < z.serial → is_lt (standing_order z m) ≡ false
      upper_one z above = let o : nat_cmp z.serial m.serial ≡ Greater = grind (arith, nat_tests, above) in rw o refl

  others_put : (m : machine.Standing) → m.serial ≡ n → (ys : List machine.Standing) → Grows ys
      → without_standing (n ∷ []) (put standing_order m ys) ≡ without_standing (n ∷ []) ys
  others_put m own ys g =
      let other : machine.Standing → Bool = λ x. not (list_any (λ k. k == x.serial) (n ∷ [])) in
      let lower : List machine.Standing = filter (λ y. is_lt (standing_order y m)) ys in
      let upper : List machine.Standing = filter (λ y. is_gt (standing_order y m)) ys in
      let hit : (n == m.serial) ≡ true = eq-eqb n m.serial (sym own) in
      let goes : filter other (m ∷ upper) ≡ filter other upper = rw hit refl in
      filter-append other lower (m ∷ upper) ∙ ap (λ (t : List machine.Standing). filter other lower ++ t) goes ∙ parts_without_it m own ys g

  others_dropped : (name : List ℕ) (ys : List machine.Standing)
      → without_standing (n ∷ []) (filter (λ x. not (is_of_name n name x)) ys) ≡ without_standing (n ∷ []) ys
  others_dropped name [] = refl
  others_dropped name (y ∷ ys) = elim (cases_Bool (y.serial == n)) [
    | inl hit ↦
        let turned : (n == y.serial) ≡ true = grind (arith, nat_tests, hit) in
        drops_at_serial (λ x. not (is_of_name n name x)) y ys turned ∙ others_dropped name ys ∙ rw turned refl
    | inr miss ↦
        let turned : (n == y.serial) ≡ false = grind (arith, nat_tests, miss) in
        rw (miss, turned) (ap (λ t. y ∷ t) (others_dropped name ys))
  ]

  grows_dropped : (name : List ℕ) (ys : List machine.Standing) → Grows ys → Grows (filter (λ x. not (is_of_name n name x)) ys)
  grows_dropped name ys g = grows_filter (λ x. not (is_of_name n name x)) ys g

  stood : (o : Option Standing) (name : List ℕ)
      → AllByRecursion (λ (x : Standing). (x.serial ≡ n) × (x.name ≡ name)) (option_to_list o) → (ys : List machine.Standing) → Grows ys
      → (without_standing (n ∷ []) (stand_where o ys) ≡ without_standing (n ∷ []) ys) × Grows (stand_where o ys)
  stood None name own ys g = (refl, g)
  stood (Some x) name own ys g = (others_put (standing_of x) own.0.0 ys g, grows_put (standing_of x) ys g)

  pub others_renamed : (rs : List Renaming) → AllByRecursion (IsOfSession n) rs → (t : Told) → Grows t.standing
      → without_standing (n ∷ []) (rename_all n rs t).standing ≡ without_standing (n ∷ []) t.standing
  others_renamed [] own t g = refl
  others_renamed (r ∷ rs) own t g =
      let after = drop_name n r.name t in
      let one = stood r.standing r.name own.0 after.standing (grows_dropped r.name t.standing g) in
      others_renamed rs own.1 (rename n r t) one.1 ∙ one.0 ∙ others_dropped r.name t.standing

-- what stands in order does not fall, nor what is left of it
pub grows_rising : (xs : List machine.Standing) → IsStrictlySortedBy standing_order xs → Grows xs
unfolding IsStrictlySortedBy
grows_rising [] up = tt
grows_rising (x ∷ xs) up = (
  all_weaker (λ y. standing_order x y ≡ Less) (λ (y : machine.Standing). x.serial ≤ y.serial)
      (λ y e. not_above_before x.serial y.serial (slice_cmp nat_cmp x.name y.name) (ap is_lt e)) xs up.0,
  grows_rising xs up.1,
)
