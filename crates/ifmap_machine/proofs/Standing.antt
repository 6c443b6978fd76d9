-- What holds of the subscriptions in every state (`AreStood`): they rise by session and name, and a
-- session has 1,000 at most.
-- 1. How many of a list pass a test, where one is put in (`put_counted`).
-- 2. What a filter keeps (`stood_filter`), and a subscription that begins where there is room
--    (`stood_begun`).
-- 3. So each operation of a subscribe keeps it, and the fold of them does (`stood_ops`).
-- 4. So does each case of the step (`step_stood`), and each event (`event_stood`).
-- 5. So it holds after each history (`stood_after`).
use Rattle.std.proofs.Common.{◌≡◌, refl, ◌∙◌, ap, subst, ℕ, ◌+◌, ◌<◌, ◌≤◌, ◌==◌, Bool, true, false, not, List, [], ◌∷◌}
use Rattle.std.proofs.Common.{◌++◌, length, Option, None, Some, option_and_then, inl, inr, nat_le, arith, length-append}
use Rattle.std.proofs.lemmas.Bool.{and_cases, and_parts, cases_Bool}
use Rattle.std.proofs.lemmas.Bool.Decides.{nat_tests}
use Rattle.std.proofs.lemmas.List.Elements.{filter-append}
use Rattle.std.proofs.lemmas.List.Kept.{IsStrictlySortedBy-filter}
use Rattle.std.specs.List.{filter, list_any}
use Rattle.std.specs.List.Sorted.{IsStrictlySortedBy}
use Rattle.std.specs.Ordering.{is_gt, is_lt}
use Rattle.std.specs.declared.cmp.Ordering.{Ordering}
use Rattle.ifmap_lemmas.specs.Filters.{filter_fewer}
use Rattle.ifmap_lemmas.specs.Parted.{one_gone, two_sides}
use Rattle.ifmap_machine.specs.declared.events.Ask.{Ask}
use Rattle.ifmap_machine.specs.Ending.{end_some, expire}
use Rattle.ifmap_machine.specs.Events.{Event}
use Rattle.ifmap_machine.specs.Legal.{History, state_from}
use Rattle.ifmap_machine.specs.State.{Standing, State, advance, standing_in, standing_order}
use Rattle.ifmap_machine.specs.Step.{answer_subscribed, step, step_ask}
use Rattle.ifmap_machine.specs.Subscribing.{Told, is_full_for, is_of_name, most_names, subscribe_op, subscribe_ops}
use Rattle.ifmap_machine.specs.Telling.{is_too_big}
use Rattle.ifmap_machine.proofs.Cases.{former_keeps, step_keeps}
use Rattle.ifmap_machine.specs.OrderLaws.{standing_total}
use Rattle.ifmap_folds.specs.ifmap_plans.Placing.{put}
use Rattle.ifmap_folds.specs.ifmap_plans.laws.PlacingLaws.{put_sorted}
use Rattle.ifmap_publish.specs.ifmap_requests.declared.requests.SubscribeOp.{SubscribeOp}
use Rattle.ifmap_publish.specs.ifmap_requests.declared.requests.SubscribeOp.TheVariants.{Update, Delete}
use Rattle.ifmap_replies.specs.ifmap_search.declared.searches.Search.{Search}
use Rattle.ifmap_session.specs.Sessions.{Session, session_of_client}
use Rattle.ifmap_publish.specs.ifmap_view.declared.attachments.Attachment.{Attachment}

-- ---- how many

module _ {X : Type 0} (q : X → Bool) where
  one_more : (a : X) (xs : List X) → length (filter q (a ∷ xs)) ≤ length (filter q xs) + 1
  one_more a xs = elim (cases_Bool (q a)) [ inl h ↦ rw h (omega arith) | inr h ↦ rw h (omega arith) ]

  -- one more at most, where one is put in; no more, where it does not count
  pub put_counted : (C : X → X → Ordering) (a : X) (xs : List X) → length (filter q (put C a xs)) ≤ length (filter q xs) + 1
  put_counted C a xs =
      let below : List X = filter (λ y. is_lt (C y a)) xs in
      let above : List X = filter (λ y. is_gt (C y a)) xs in
      let sides = two_sides q C a xs in
      let more = one_more a above in
      let joined : length (filter q (below ++ a ∷ above)) ≡ length (filter q below) + length (filter q (a ∷ above)) =
      ap length (filter-append q below (a ∷ above)) ∙ length-append (filter q below) (filter q (a ∷ above)) in
      omega (arith, sides, more, joined)

  pub put_passed : (C : X → X → Ordering) (a : X) (xs : List X) → q a ≡ false → length (filter q (put C a xs)) ≤ length (filter q xs)
  put_passed C a xs other =
      let below : List X = filter (λ y. is_lt (C y a)) xs in
      let above : List X = filter (λ y. is_gt (C y a)) xs in
      let sides = two_sides q C a xs in
      let same : length (filter q (a ∷ above)) ≡ length (filter q above) = rw other refl in
      let joined : length (filter q (below ++ a ∷ above)) ≡ length (filter q below) + length (filter q (a ∷ above)) =
      ap length (filter-append q below (a ∷ above)) ∙ length-append (filter q below) (filter q (a ∷ above)) in
      omega (arith, sides, same, joined)

-- ---- subscriptions

-- what holds of the subscriptions in every state
pub record AreStood (standing : List Standing) : Type 0 where
  pub rising : IsStrictlySortedBy standing_order standing
  pub few : (n : ℕ) → length (standing_in n standing) ≤ most_names

pub stood_none : AreStood []
unfolding IsStrictlySortedBy
stood_none = record { rising = tt; few = λ n. omega arith }

pub stood_filter : (p : Standing → Bool) (xs : List Standing) → AreStood xs → AreStood (filter p xs)
stood_filter p xs w = record {
  rising = IsStrictlySortedBy-filter standing_order p xs w.rising;
  few = λ n. let less = filter_fewer (λ (x : Standing). x.serial == n) p xs in let most = w.few n in omega (arith, less, most);
}

-- a name for which there is room leaves fewer than 1,000 once it is dropped
room_left : (serial : ℕ) (name : List ℕ) (xs : List Standing) → AreStood xs → is_full_for serial name xs ≡ false
    → length (standing_in serial (filter (λ x. not (is_of_name serial name x)) xs)) < most_names
room_left serial name xs w free =
    elim (and_cases (nat_le most_names (length (standing_in serial xs))) (not (list_any (is_of_name serial name) xs)) free) [
      | inl low ↦
          let less = filter_fewer (λ (x : Standing). x.serial == serial) (λ x. not (is_of_name serial name x)) xs in
          let under : length (standing_in serial xs) < most_names = grind (arith, nat_tests, low) in
          omega (arith, less, under)
      | inr there ↦
          let some : list_any (is_of_name serial name) xs ≡ true = grind (arith, there) in
          let gone = one_gone (λ (x : Standing). x.serial == serial) (is_of_name serial name)
          (λ x is. (and_parts _ _ is).0) xs some in
          let most = w.few serial in
          omega (arith, gone, most)
    ]

stood_begun : (serial : ℕ) (name : List ℕ) (asked : Search) (xs : List Standing) → AreStood xs → is_full_for serial name xs ≡ false
    → AreStood (put standing_order (record { serial = serial; name = name; search = asked })
    (filter (λ x. not (is_of_name serial name x)) xs))
stood_begun serial name asked xs w free =
    let kept : List Standing = filter (λ x. not (is_of_name serial name x)) xs in
    let x : Standing = record { serial = serial; name = name; search = asked } in
    let left = stood_filter (λ y. not (is_of_name serial name y)) xs w in
    record {
      rising = put_sorted Standing standing_order standing_total x kept left.rising;
      few = λ n. elim (cases_Bool (serial == n)) [
        | inl own ↦
            let same : serial ≡ n = grind (arith, nat_tests, own) in
            let room = room_left serial name xs w free in
            subst (λ m. length (standing_in m (put standing_order x kept)) ≤ most_names) same
            (let more = put_counted (λ (y : Standing). y.serial == serial) standing_order x kept in omega (arith, more, room))
        | inr other ↦
            let less = put_passed (λ (y : Standing). y.serial == n) standing_order x kept other in
            let most = left.few n in
            omega (arith, less, most)
      ];
    }

abbrev pub Stood : Option Told → Type 0
Stood None = Unit {0}
Stood (Some t) = AreStood t.standing

op_stood : (rows : List Attachment) (serial : ℕ) (op : SubscribeOp) (t : Told) → AreStood t.standing
    → Stood (subscribe_op rows serial op t)
op_stood rows serial (Update name asked) t w =
    elim (cases_Bool (is_full_for serial name t.standing)) [
      | inl full ↦ rw full tt
      | inr free ↦ elim (cases_Bool (is_too_big rows asked)) [
        | inl big ↦ rw (free, big) (stood_filter (λ x. not (is_of_name serial name x)) t.standing w)
        | inr fits ↦ rw (free, fits) (stood_begun serial name asked t.standing w free)
      ]
    ]
op_stood rows serial (Delete name) t w = stood_filter (λ x. not (is_of_name serial name x)) t.standing w

pub stood_ops : (rows : List Attachment) (serial : ℕ) (ops : List SubscribeOp) (t : Told) → AreStood t.standing
    → Stood (subscribe_ops rows serial ops t)
stood_ops rows serial [] t w = w
stood_ops rows serial (op ∷ ops) t w =
    at (subscribe_op rows serial op t) (op_stood rows serial op t w) (λ u h. stood_ops rows serial ops u h)
  where
    at : (o : Option Told) → Stood o → ((u : Told) → AreStood u.standing → Stood (subscribe_ops rows serial ops u))
        → Stood (option_and_then (subscribe_ops rows serial ops) o)
    at None h rest = tt
    at (Some u) h rest = rest u h

-- ---- the cases of the step

abbrev pub IsStood : State → Type 0
IsStood state = AreStood state.standing

pub ended_stood : (serials : List ℕ) (state : State) → IsStood state → IsStood (end_some serials state)
ended_stood [] state w = w
ended_stood (serial ∷ serials) state w = stood_filter _ _ (stood_filter _ _ (stood_filter _ state.standing w))

subscribed_stood : (state : State) (s : Session) (o : Option Told) → Stood o → IsStood state → IsStood (answer_subscribed state s o).0
subscribed_stood state s None h w = w
subscribed_stood state s (Some t) h w = stood_filter _ t.standing h

pub step_stood : (state : State) (event : Event) (ask : Ask) → IsStood state → IsStood (step_ask state event ask).0
step_stood state event ask w =
    let ended : (s : Session) → IsStood (end_some (s.serial ∷ []) state) = λ s. ended_stood (s.serial ∷ []) state w in
    step_keeps IsStood state event ask (record {
      renewed = λ serial one v. v;
      empty = λ s. w;
      ended = ended;
      begun = λ limit free. former_keeps IsStood state (session_of_client event.client state.sessions) ended w;
      published = λ id ops is s found own. stood_filter _ _ (stood_filter _ state.standing w);
      subscribed = λ ops s.
          subscribed_stood state s (subscribe_ops state.graph s.serial ops (record { queue = s.queue; standing = state.standing }))
          (stood_ops state.graph s.serial ops (record { queue = s.queue; standing = state.standing }) w) w;
      taken = λ publisher s. stood_filter _ _ (stood_filter _ state.standing w);
    }) w

pub event_stood : (state : State) (event : Event) → IsStood state → IsStood (step state event).0
event_stood state event w = step_stood (expire (advance event.moment state)) event event.ask
    (ended_stood _ (advance event.moment state) w)

pub stood_after : (state : State) (history : History) → IsStood state → IsStood (state_from state history)
stood_after state [] w = w
stood_after state (e ∷ history) w = stood_after (step state e.0).0 history (event_stood state e.0 w)
