-- That clients fold the fresh results of their subscriptions.
-- `Follows` holds in every state: what is queued for a session, folded onto what its polls were told, is the fresh result of each of
-- its subscriptions. First: telling, overflowing, and the ends and beginnings of sessions keep it. Then: the fold of a subscribe
-- (`ops_tell`, `told_follows`), polls (`polled_follows`), each case of the step, and histories.
use Rattle.std.proofs.Common.{◌≡◌, refl, sym, ◌∙◌, ap, subst, ℕ, ◌+◌, ◌^◌, ◌<◌, ◌≤◌, ◌==◌, ◌&&◌, Bool, true, false, not, cond, List}
use Rattle.std.proofs.Common.{[], ◌∷◌, ◌++◌, map, Option, None, Some, option_and_then, inl, inr, arith}
use Rattle.std.proofs.lemmas.Bool.{and_cases, both_ways, cases_Bool, eq-eqb, eqb-true, not-true}
use Rattle.std.proofs.lemmas.List.Kept.{IsStrictlySortedBy-filter}
use Rattle.std.specs.List.{find}
use Rattle.std.specs.List.Sorted.{IsStrictlySortedBy}
use Rattle.ifmap_folds.specs.Folds.{Sets, fold_items, with_entries}
use Rattle.ifmap_folds.specs.ifmap_plans.laws.PlacingLaws.{put_has}
use Rattle.ifmap_folds.specs.ifmap_fresh.Fresh.{fresh}
use Rattle.ifmap_lemmas.specs.Filters.{all_weaker, filter_passes}
use Rattle.ifmap_lemmas.specs.Having.{Has, filter_has, has_any, has_either, has_filter, map_has, all_has}
use Rattle.ifmap_lemmas.specs.Parted.{find_has}
use Rattle.ifmap_machine.specs.Agreeing.{items_polled}
use Rattle.ifmap_machine.specs.Ending.{drop_sessions}
use Rattle.ifmap_machine.specs.State.{Standing, State, standing_in, standing_order}
use Rattle.ifmap_machine.specs.Step.{begin_session, in_session, next_session}
use Rattle.ifmap_machine.specs.Step.{poll, poll_in, poll_queue, renew, renew_first}
use Rattle.ifmap_machine.specs.Step.{with_told}
use Rattle.ifmap_machine.specs.Subscribing.{Told, begin_name, drop_name, is_full_for, is_of_name, subscribe_op, subscribe_ops}
use Rattle.ifmap_machine.specs.Telling.{is_overfull, is_overrun, is_too_big, overflow, overflow_session, tell, tell_session, told_in_session}
use Rattle.ifmap_machine.specs.Telling.{too_big_item}
use Rattle.ifmap_machine.proofs.Folding.{AreOf, Folds, dropped_stay, fold_joined, other_stays, told_all}
use Rattle.ifmap_machine.proofs.Ids.{one_of_serial}
use Rattle.ifmap_machine.proofs.Standing.{IsStood}
use Rattle.ifmap_machine.proofs.Tables.{IsTabled, overflow_keeps}
use Rattle.ifmap_machine.specs.OrderLaws.{standing_total}
use Rattle.ifmap_folds.specs.ifmap_plans.declared.plans.Note.{Note}
use Rattle.ifmap_publish.specs.ifmap_requests.declared.requests.SubscribeOp.{SubscribeOp}
use Rattle.ifmap_publish.specs.ifmap_requests.declared.requests.SubscribeOp.TheVariants.{Update, Delete}
use Rattle.ifmap_replies.specs.ifmap_search.declared.results.PollItem.{PollItem}
use Rattle.ifmap_replies.specs.ifmap_search.declared.results.PollItem.TheVariants as the_item
use Rattle.ifmap_replies.specs.ifmap_search.declared.searches.Search.{Search}
use Rattle.ifmap_session.specs.Sessions.{Session, change, is_named, is_same_text, session_with_id, without_items}
use Rattle.ifmap_session.specs.laws.TextLaws.{text_flip, text_is, text_itself, text_same}
use Rattle.ifmap_publish.specs.ifmap_view.declared.attachments.Attachment.{Attachment}
use Rattle.ifmap_session.specs.laws.IdLaws.{ids_tell}

-- what is queued for each session makes, of what its polls were told, the fresh results of its subscriptions; and these are of
-- sessions that began
pub record Follows (Live : Standing → Type 0) (done : List ℕ → Sets) (state : State) : Type 0 where
  pub folded : (s : Session) (x : Standing) → Has state.sessions s → Has state.standing x → x.serial ≡ s.serial → Live x
      → fold_items s.queue (done s.id) x.name ≡ Some (fresh state.graph x.search)
  pub below : (x : Standing) → Has state.standing x → x.serial ≤ state.counter

-- a function of each session that keeps its serial, id and queue
record KeepsQueue (f : Session → Session) : Type 0 where
  serial : (s : Session) → (f s).serial ≡ s.serial
  id : (s : Session) → (f s).id ≡ s.id
  queue : (s : Session) → (f s).queue ≡ s.queue

same_follows : {Live : Standing → Type 0} (f : Session → Session) → KeepsQueue f → (done : List ℕ → Sets) (state : State)
    → Follows Live done state
    → Follows Live done (record state { sessions = map f state.sessions })
same_follows f k done state w = record {
  folded = λ s x hs hx same live.
      let from = map_has f state.sessions s hs in
      let u : Session = from.0 in
      let own : x.serial ≡ u.serial = same ∙ ap (λ (t : Session). t.serial) (sym from.2) ∙ k.serial u in
      subst (λ (t : Session). fold_items t.queue (done t.id) x.name ≡ Some (fresh state.graph x.search)) from.2
      (rw (k.queue u, k.id u) (w.folded u x from.1 hx own live));
  below = w.below;
}

pub renewed_follows : {Live : Standing → Type 0} (serial : ℕ) (done : List ℕ → Sets) (state : State)
    → Follows Live done state → Follows Live done (renew serial state)
renewed_follows serial done state w = same_follows _ (record {
  serial = λ s. elim (cases_Bool (s.serial == serial)) [ inl h ↦ rw h refl | inr h ↦ rw h refl ];
  id = λ s. elim (cases_Bool (s.serial == serial)) [ inl h ↦ rw h refl | inr h ↦ rw h refl ];
  queue = λ s. elim (cases_Bool (s.serial == serial)) [ inl h ↦ rw h refl | inr h ↦ rw h refl ];
}) done state w

pub first_follows : {Live : Standing → Type 0} (again : Bool) (serial : ℕ) (done : List ℕ → Sets) (state : State) → Follows Live done state
    → Follows Live done (renew_first again serial state)
first_follows true serial done state w = w
first_follows false serial done state w = renewed_follows serial done state w

-- ---- telling and overflowing

pub tell_follows : {Live : Standing → Type 0} (after : List Attachment) (notes : List Note) (done : List ℕ → Sets) (state : State)
    → ((s : Search) → Folds state.graph after s) → IsStood state → Follows Live done state → Follows Live done (tell after notes state)
tell_follows after notes done state folds stood w = record {
  folded = λ s x hs hx same live.
      let f : Session → Session = λ t. tell_session (told_in_session state.graph after notes state.standing t.serial) t in
      let from = map_has f state.sessions s hs in
      let u : Session = from.0 in
      let kept = filter_has (λ y. not (is_too_big after y.search)) state.standing x hx in
      let own : x.serial ≡ u.serial = same ∙ ap (λ (t : Session). t.serial) (sym from.2) in
      let there = w.folded u x from.1 kept.0 own live in
      let mine : List Standing = standing_in u.serial state.standing in
      let up : IsStrictlySortedBy standing_order mine =
      IsStrictlySortedBy-filter standing_order (λ (y : Standing). y.serial == u.serial) state.standing stood.rising in
      let are : AreOf u.serial mine =
      all_weaker (λ (y : Standing). (y.serial == u.serial) ≡ true) (λ (y : Standing). y.serial ≡ u.serial)
      (λ y e. eqb-true y.serial u.serial e) mine (filter_passes (λ (y : Standing). y.serial == u.serial) state.standing) in
      let has : Has mine x = has_filter (λ (y : Standing). y.serial == u.serial) state.standing x kept.0 (eq-eqb x.serial u.serial own) in
      let told = told_all state.graph after notes u.serial mine x (fold_items u.queue (done u.id)) up are has (folds x.search)
      (not-true (is_too_big after x.search) kept.1) there in
      subst (λ (t : Session). fold_items t.queue (done t.id) x.name ≡ Some (fresh after x.search)) from.2
      (ap (λ g. g x.name) (fold_joined u.queue (told_in_session state.graph after notes state.standing u.serial) (done u.id)) ∙ told);
  below = λ x hx. w.below x (filter_has (λ y. not (is_too_big after y.search)) state.standing x hx).0;
}

pub overflow_follows : {Live : Standing → Type 0} (done : List ℕ → Sets) (state : State)
    → Follows Live done state → Follows Live done (overflow state)
overflow_follows done state w = record {
  folded = λ s x hs hx same live.
      let from = map_has overflow_session state.sessions s hs in
      let u : Session = from.0 in
      let kept = filter_has (λ y. not (is_overrun state.sessions y)) state.standing x hx in
      elim (cases_Bool (is_overfull u)) [
        | inl hit ↦
            let serials : u.serial ≡ s.serial = sym (overflow_keeps.serial u) ∙ ap (λ (t : Session). t.serial) from.2 in
            let named : (u.serial == x.serial) ≡ true = eq-eqb u.serial x.serial (serials ∙ sym same) in
            let passes : (u.serial == x.serial && is_overfull u) ≡ true = rw (named, hit) refl in
            absurd (both_ways (is_overrun state.sessions x) (not-true (is_overrun state.sessions x) kept.1)
            (has_any (λ (t : Session). t.serial == x.serial && is_overfull t) state.sessions u from.1 passes))
        | inr miss ↦
            let is : overflow_session u ≡ u = rw miss refl in
            let one : u ≡ s = sym is ∙ from.2 in
            subst (λ (t : Session). fold_items t.queue (done t.id) x.name ≡ Some (fresh state.graph x.search)) one
            (w.folded u x from.1 kept.0 (same ∙ ap (λ (t : Session). t.serial) (sym one)) live)
      ];
  below = λ x hx. w.below x (filter_has (λ y. not (is_overrun state.sessions y)) state.standing x hx).0;
}

-- ---- sessions end and begin

pub drop_follows : {Live : Standing → Type 0} (serials : List ℕ) (done : List ℕ → Sets) (state : State) → Follows Live done state
    → Follows Live done (drop_sessions serials state)
drop_follows serials done state w = record {
  folded = λ s x hs hx same live. w.folded s x (filter_has _ state.sessions s hs).0 (filter_has _ state.standing x hx).0 same live;
  below = λ x hx. w.below x (filter_has _ state.standing x hx).0;
}

pub begun_follows : {Live : Standing → Type 0} (client : List ℕ) (random : ℕ) (limit : Option ℕ) (done : List ℕ → Sets) (state : State)
    → Follows Live done state
    → Follows Live done (begin_session client random limit state)
begun_follows client random limit done state w = record {
  folded = λ s x hs hx same live.
      elim (has_either state.sessions (next_session state client random limit ∷ []) s hs) [
        | inl h ↦ w.folded s x h hx same live
        | inr h ↦ elim h [
          | inl e ↦
              let new : s.serial ≡ state.counter + 1 = ap (λ (t : Session). t.serial) (sym e) in
              let low = w.below x hx in
              absurd (omega (arith, low, same, new))
          | inr none ↦ absurd none
        ]
      ];
  below = λ x hx. let low = w.below x hx in omega (arith, low);
}

-- ---- a subscribe

-- along the fold: the session's queue makes the fresh results of its subscriptions, and those of others stay
pub record Tells (Live : Standing → Type 0) (rows : List Attachment) (serial counter : ℕ) (sets : Sets) (standing : List Standing)
    (t : Told)
    : Type 0 where
  pub mine : (x : Standing) → Has t.standing x → x.serial ≡ serial → Live x → fold_items t.queue sets x.name ≡ Some (fresh rows x.search)
  pub others : (x : Standing) → Has t.standing x → (x.serial == serial) ≡ false → Has standing x
  pub below : (x : Standing) → Has t.standing x → x.serial ≤ counter

module _ (rows : List Attachment) (serial counter : ℕ) (sets : Sets) (standing : List Standing) (in_range : serial ≤ counter) (begins :
    (s : Search) → with_entries (fresh rows s) [] ≡ fresh rows s) where
  abbrev pub TellSome : (Standing → Type 0) → Option Told → Type 0
  TellSome Live None = Unit {0}
  TellSome Live (Some t) = Tells Live rows serial counter sets standing t

  -- a subscription that stays has another name
  kept_apart : (name : List ℕ) (x : Standing) → x.serial ≡ serial → not (is_of_name serial name x) ≡ true → is_same_text name x.name ≡ false
  kept_apart name x own stays =
      elim (and_cases (x.serial == serial) (is_same_text x.name name) (not-true (is_of_name serial name x) stays)) [
        | inl other ↦ absurd (both_ways (x.serial == serial) other (eq-eqb x.serial serial own))
        | inr other ↦ text_flip name x.name ∙ other
      ]

  dropped_tells : {Live : Standing → Type 0} (name : List ℕ) (t : Told) → Tells Live rows serial counter sets standing t
      → Tells Live rows serial counter sets standing (drop_name serial name t)
  dropped_tells name t w = record {
    mine = λ x hx own live.
        let kept = filter_has (λ y. not (is_of_name serial name y)) t.standing x hx in
        dropped_stay t.queue sets sets name x.name (kept_apart name x own kept.1) refl ∙ w.mine x kept.0 own live;
    others = λ x hx other. w.others x (filter_has _ t.standing x hx).0 other;
    below = λ x hx. w.below x (filter_has _ t.standing x hx).0;
  }

  -- of those that count now, the ones of other names counted before
  abbrev pub OthersLive : (Standing → Type 0) → (Standing → Type 0) → List ℕ → Type 0
  OthersLive Live Now name = (x : Standing) → Now x → is_same_text name x.name ≡ false → Live x

  -- an item of a name more, where that name has no subscription
  more_tells : {Live Now : Standing → Type 0} (name : List ℕ) (item : PollItem) (t : Told) → is_named name item ≡ true
      → OthersLive Live Now name → Tells Live rows serial counter sets standing t
      → (x : Standing) → Has (drop_name serial name t).standing x → x.serial ≡ serial → Now x
      → fold_items ((drop_name serial name t).queue ++ item ∷ []) sets x.name ≡ Some (fresh rows x.search)
  more_tells name item t named counted w x hx own live =
      let left : Told = drop_name serial name t in
      let kept = filter_has (λ y. not (is_of_name serial name y)) t.standing x hx in
      let apart = kept_apart name x own kept.1 in
      ap (λ g. g x.name) (fold_joined left.queue (item ∷ []) sets)
      ∙ other_stays item (fold_items left.queue sets) name x.name named apart
      ∙ (dropped_tells name t w).mine x hx own (counted x live apart)

  begun_tells : {Live Now : Standing → Type 0} (name : List ℕ) (asked : Search) (t : Told) → OthersLive Live Now name
      → Tells Live rows serial counter sets standing t
      → Tells Now rows serial counter sets standing (begin_name rows serial name asked (drop_name serial name t))
  begun_tells {Live} {Now} name asked t counted w =
      let left : Told = drop_name serial name t in
      let own_name = text_itself name in
      elim (cases_Bool (is_too_big rows asked)) [
        | inl big ↦ rw big (record {
          mine = λ x hx own live.
              more_tells {Live = Live} {Now = Now} name (too_big_item name rows asked) t own_name counted w x hx own live;
          others = λ x hx other. (dropped_tells name t w).others x hx other;
          below = λ x hx. (dropped_tells name t w).below x hx;
        })
        | inr fits ↦ rw fits (record {
          mine = λ x hx own live. elim (put_has Standing standing_order standing_total _ left.standing x hx) [
            | inl e ↦ subst (λ (y : Standing). fold_items (left.queue ++ the_item.Search name (fresh rows asked) ∷ []) sets y.name
                ≡ Some (fresh rows y.search)) e
                (ap (λ g. g name) (fold_joined left.queue (the_item.Search name (fresh rows asked) ∷ []) sets)
                ∙ rw own_name (ap Some (begins asked)))
            | inr h ↦ more_tells {Live = Live} {Now = Now} name (the_item.Search name (fresh rows asked)) t own_name counted w x h.0
                own live
          ];
          others = λ x hx other. elim (put_has Standing standing_order standing_total _ left.standing x hx) [
            | inl e ↦ absurd (both_ways (x.serial == serial) other (eq-eqb x.serial serial (ap (λ (y : Standing). y.serial) (sym e))))
            | inr h ↦ (dropped_tells name t w).others x h.0 other
          ];
          below = λ x hx. elim (put_has Standing standing_order standing_total _ left.standing x hx) [
            | inl e ↦ subst (λ n. n ≤ counter) (ap (λ (y : Standing). y.serial) e) in_range
            | inr h ↦ (dropped_tells name t w).below x h.0
          ];
        })
      ]

  updated_tells : {Live Now : Standing → Type 0} (name : List ℕ) (asked : Search) (t : Told) → OthersLive Live Now name
      → Tells Live rows serial counter sets standing t → TellSome Now (subscribe_op rows serial (Update name asked) t)
  updated_tells {Live} {Now} name asked t counted w =
      elim (cases_Bool (is_full_for serial name t.standing)) [
        | inl full ↦ rw full tt
        | inr free ↦ rw free (begun_tells {Live = Live} {Now = Now} name asked t counted w)
      ]

  op_tells : {Live : Standing → Type 0} (op : SubscribeOp) (t : Told) → Tells Live rows serial counter sets standing t
      → TellSome Live (subscribe_op rows serial op t)
  op_tells {Live} (Update name asked) t w = updated_tells {Live = Live} {Now = Live} name asked t (λ x live apart. live) w
  op_tells {Live} (Delete name) t w = dropped_tells name t w

  then_tells : (Live Now : Standing → Type 0) (ops : List SubscribeOp) (o : Option Told) → TellSome Live o
      → ((u : Told) → Tells Live rows serial counter sets standing u → TellSome Now (subscribe_ops rows serial ops u))
      → TellSome Now (option_and_then (subscribe_ops rows serial ops) o)
  then_tells Live Now ops None h rest = tt
  then_tells Live Now ops (Some u) h rest = rest u h

  pub ops_tell : {Live : Standing → Type 0} (ops : List SubscribeOp) (t : Told) → Tells Live rows serial counter sets standing t
      → TellSome Live (subscribe_ops rows serial ops t)
  ops_tell {Live} [] t w = w
  ops_tell {Live} (op ∷ ops) t w =
      then_tells Live Live ops (subscribe_op rows serial op t) (op_tells op t w) (λ u h. ops_tell ops u h)

  -- a name that is updated makes its result anew, whatever was told before
  pub ops_renew : {Live : Standing → Type 0} (name : List ℕ) (asked : Search) (ops : List SubscribeOp) (t : Told)
      → Has ops (Update name asked) → Tells Live rows serial counter sets standing t
      → TellSome (λ (x : Standing). x.name ≡ name) (subscribe_ops rows serial ops t)
  ops_renew {Live} name asked [] t h w = absurd h
  ops_renew {Live} name asked (op ∷ ops) t (inl e) w =
      subst (λ (one : SubscribeOp). TellSome (λ (x : Standing). x.name ≡ name) (subscribe_ops rows serial (one ∷ ops) t)) (sym e)
      (then_tells (λ (x : Standing). x.name ≡ name) (λ (x : Standing). x.name ≡ name) ops (subscribe_op rows serial (Update name asked) t)
      (updated_tells {Live = Live} {Now = λ (x : Standing). x.name ≡ name} name asked t
      (λ x is apart. absurd (both_ways (is_same_text name x.name) apart (text_same name x.name (sym is)))) w)
      (λ u k. ops_tell ops u k))
  ops_renew {Live} name asked (op ∷ ops) t (inr h) w =
      then_tells Live (λ (x : Standing). x.name ≡ name) ops (subscribe_op rows serial op t) (op_tells op t w)
      (λ u k. ops_renew name asked ops u h k)

-- fewer subscriptions count
pub tells_fewer : {Live Now : Standing → Type 0} (rows : List Attachment) (serial counter : ℕ) (sets : Sets) (standing : List Standing)
    (t : Told) → ((x : Standing) → Now x → Live x) → Tells Live rows serial counter sets standing t
    → Tells Now rows serial counter sets standing t
tells_fewer rows serial counter sets standing t fewer w =
    record { mine = λ x hx own live. w.mine x hx own (fewer x live); others = w.others; below = w.below }

-- a session with this queue, where it has that serial
abbrev queue_one : ℕ → List PollItem → Session → Session
queue_one n queue s = cond (s.serial == n) (record s { queue = queue }) s

-- the session that was found is the one of its serial
is_found : (state : State) (q : Session → Bool) (s u : Session) → IsTabled state → find q state.sessions ≡ Some s → Has state.sessions u
    → (u.serial == s.serial) ≡ true → u ≡ s
is_found state q s u tabled found h same =
    one_of_serial state.sessions u s tabled.rising h (find_has q state.sessions s found).0 (eqb-true u.serial s.serial same)

pub told_follows : {Live Now : Standing → Type 0} (done : List ℕ → Sets) (state : State) (q : Session → Bool) (s : Session) (t : Told)
    → IsTabled state → find q state.sessions ≡ Some s → ((x : Standing) → Now x → (x.serial == s.serial) ≡ false → Live x)
    → Tells Now state.graph s.serial state.counter (done s.id) state.standing t → Follows Live done state
    → Follows Now done (with_told s.serial t state)
told_follows done state q s t tabled found goes tells w = record {
  folded = λ one x hs hx same live.
      let from = map_has (queue_one s.serial t.queue) state.sessions one hs in
      let u : Session = from.0 in
      elim (cases_Bool (u.serial == s.serial)) [
        | inl hit ↦
            let is : queue_one s.serial t.queue u ≡ record u { queue = t.queue } = rw hit refl in
            let mine : record u { queue = t.queue } ≡ one = sym is ∙ from.2 in
            let found_one : u ≡ s = is_found state q s u tabled found from.1 hit in
            let serials : x.serial ≡ s.serial =
            same ∙ ap (λ (y : Session). y.serial) (sym mine) ∙ ap (λ (y : Session). y.serial) found_one in
            subst (λ (y : Session). fold_items y.queue (done y.id) x.name ≡ Some (fresh state.graph x.search)) mine
            (subst (λ (y : Session). fold_items t.queue (done y.id) x.name ≡ Some (fresh state.graph x.search)) (sym found_one)
            (tells.mine x hx serials live))
        | inr miss ↦
            let is : queue_one s.serial t.queue u ≡ u = rw miss refl in
            let one_is : u ≡ one = sym is ∙ from.2 in
            let serials : x.serial ≡ u.serial = same ∙ ap (λ (y : Session). y.serial) (sym one_is) in
            let other : (x.serial == s.serial) ≡ false = subst (λ n. (n == s.serial) ≡ false) (sym serials) miss in
            subst (λ (y : Session). fold_items y.queue (done y.id) x.name ≡ Some (fresh state.graph x.search)) one_is
            (w.folded u x from.1 (tells.others x hx other) serials (goes x live other))
      ];
  below = tells.below;
}

-- ---- a poll

-- what polls of an id were told, with these items more
abbrev pub polled_more : List ℕ → List PollItem → (List ℕ → Sets) → List ℕ → Sets
polled_more own items done id = fold_items (cond (is_same_text own id) items []) (done id)

follows_same : {Live : Standing → Type 0} (done other : List ℕ → Sets) (state : State) → ((id : List ℕ) → other id ≡ done id)
    → Follows Live done state
    → Follows Live other state
follows_same done other state same w = record {
  folded = λ s x hs hx serials live. ap (λ (g : Sets). fold_items s.queue g x.name) (same s.id) ∙ w.folded s x hs hx serials live;
  below = w.below;
}

nothing_more : {Live : Standing → Type 0} (own : List ℕ) (done : List ℕ → Sets) (state : State)
    → Follows Live done state → Follows Live (polled_more own [] done) state
nothing_more own done state w = follows_same done (polled_more own [] done) state
    (λ id. elim (cases_Bool (is_same_text own id)) [ inl h ↦ rw h refl | inr h ↦ rw h refl ]) w

-- sessions of one id have one serial, in whatever states they are
pub one_serial : (a b : State) (s u : Session) → IsTabled a → IsTabled b → Has a.sessions s → Has b.sessions u → s.id ≡ u.id
    → s.serial ≡ u.serial
one_serial a b s u one other hs hu same =
    let few : a.counter < 2 ^ 64 = one.small in
    let small : b.counter < 2 ^ 64 = other.small in
    let low = all_has (λ (y : Session). y.serial ≤ a.counter) a.sessions one.counted s hs in
    let under = all_has (λ (y : Session). y.serial ≤ b.counter) b.sessions other.counted u hu in
    let first = all_has _ a.sessions one.ids s hs in
    let second = all_has _ b.sessions other.ids u hu in
    ids_tell s.serial u.serial s.id (omega (arith, few, low)) (omega (arith, small, under)) first (second.0, same ∙ second.1)

-- two sessions of one id are one
id_tells : (state : State) (s u : Session) → IsTabled state → Has state.sessions s → Has state.sessions u → s.id ≡ u.id
    → (u.serial == s.serial) ≡ true
id_tells state s u tabled hs hu same = eq-eqb u.serial s.serial (sym (one_serial state state s u tabled tabled hs hu same))

polled_follows : {Live : Standing → Type 0} (done : List ℕ → Sets) (state : State) (own : List ℕ) (s : Session) (items : List PollItem)
    → IsTabled state
    → session_with_id own state.sessions ≡ Some s → s.queue ≡ items → Follows Live done state
    → Follows Live (polled_more own items done) (record state { sessions = change s.serial without_items state.sessions })
polled_follows done state own s items tabled found queue w =
    let there = find_has (λ (y : Session). is_same_text y.id own) state.sessions s found in
    let own_is : s.id ≡ own = text_is s.id own there.1 in
    record {
      folded = λ one x hs hx same live.
          let from = map_has (queue_one s.serial []) state.sessions one hs in
          let u : Session = from.0 in
          elim (cases_Bool (u.serial == s.serial)) [
            | inl hit ↦
                let is : queue_one s.serial [] u ≡ record u { queue = [] } = rw hit refl in
                let mine : record u { queue = [] } ≡ one = sym is ∙ from.2 in
                let found_one : u ≡ s =
                one_of_serial state.sessions u s tabled.rising from.1 there.0 (eqb-true u.serial s.serial hit) in
                let serials : x.serial ≡ s.serial =
                same ∙ ap (λ (y : Session). y.serial) (sym mine) ∙ ap (λ (y : Session). y.serial) found_one in
                let named : is_same_text own s.id ≡ true = text_same own s.id (sym own_is) in
                let told : fold_items items (done s.id) x.name ≡ Some (fresh state.graph x.search) =
                subst (λ q. fold_items q (done s.id) x.name ≡ Some (fresh state.graph x.search)) queue
                (w.folded s x there.0 hx serials live) in
                subst (λ (y : Session). fold_items y.queue (polled_more own items done y.id) x.name ≡ Some (fresh state.graph x.search))
                mine
                (subst (λ (y : Session). polled_more own items done y.id x.name ≡ Some (fresh state.graph x.search)) (sym found_one)
                (rw named told))
            | inr miss ↦
                let is : queue_one s.serial [] u ≡ u = rw miss refl in
                let one_is : u ≡ one = sym is ∙ from.2 in
                let serials : x.serial ≡ u.serial = same ∙ ap (λ (y : Session). y.serial) (sym one_is) in
                let other : is_same_text own u.id ≡ false = elim (cases_Bool (is_same_text own u.id)) [
                  | inl hit ↦ absurd (both_ways (u.serial == s.serial) miss
                      (id_tells state s u tabled there.0 from.1 (own_is ∙ text_is own u.id hit)))
                  | inr apart ↦ apart
                ] in
                subst (λ (y : Session). fold_items y.queue (polled_more own items done y.id) x.name ≡ Some (fresh state.graph x.search))
                one_is
                (rw other (w.folded u x from.1 hx serials live))
          ];
      below = w.below;
    }

queue_follows : {Live : Standing → Type 0} (done : List ℕ → Sets) (state : State) (own : List ℕ) (again : Bool) (s : Session)
    (queue : List PollItem) → IsTabled state
    → session_with_id own state.sessions ≡ Some s → s.queue ≡ queue → Follows Live done state
    → Follows Live (polled_more own (items_polled (poll_queue state again s queue).1) done) (poll_queue state again s queue).0
queue_follows done state own again s [] tabled found queue w =
    nothing_more own done _ (first_follows again s.serial done state w)
queue_follows done state own again s (item ∷ items) tabled found queue w =
    first_follows again s.serial _ _ (polled_follows done state own s (item ∷ items) tabled found queue w)

in_poll_follows : {Live : Standing → Type 0} (done : List ℕ → Sets) (state : State) (client own : List ℕ) (again : Bool)
    (o : Option Session) → IsTabled state
    → session_with_id own state.sessions ≡ o → Follows Live done state
    → Follows Live (polled_more own (items_polled (in_session state client o (poll_in state again)).1) done)
    (in_session state client o (poll_in state again)).0
in_poll_follows done state client own again None tabled found w = nothing_more own done state w
in_poll_follows done state client own again (Some s) tabled found w =
    elim (cases_Bool (is_same_text s.client client)) [
      | inl hit ↦ rw hit (queue_follows done state own again s s.queue tabled found refl w)
      | inr miss ↦ rw miss (nothing_more own done state w)
    ]

pub poll_follows : {Live : Standing → Type 0} (done : List ℕ → Sets) (state : State) (client own : List ℕ) (again : Bool)
    (o : Option Session) → IsTabled state
    → session_with_id own state.sessions ≡ o → Follows Live done state
    → Follows Live (polled_more own (items_polled (poll state client again o).1) done) (poll state client again o).0
poll_follows done state client own true None tabled found w = nothing_more own done state w
poll_follows done state client own true (Some s) tabled found w = in_poll_follows done state client own true (Some s) tabled found w
poll_follows done state client own false o tabled found w = in_poll_follows done state client own false o tabled found w
