-- A change that stays, and one that is taken back.
-- 1. Subscriptions keep their searches, whichever way each was given up (`settled_searches`).
-- 2. So what each keeps is up to date still, where rows and links are the same (`kept_settled`).
-- 3. Their lists are, as the machine has them, the same and in the same order (`same_shown`,
--    `same_ordered`); so is the state so far (`same_state`).
-- 4. So what was ready is ready still (`ready_after`).
-- 5. A change that is taken back leaves all as it was (`are_back`), and what is back is sound
--    (`sound_back`).
use Rattle.std.proofs.Common.{◌≡◌, ◌≢◌, ℕ, ◌≤◌, Bool, true, false, Option, None, Some, List, [], ◌∷◌, length, map, slice_get, refl, ap, ◌∙◌, sym, subst}
use Rattle.std.specs.List.{AllByRecursion}
use Rattle.std.specs.List.Sorted.{IsStrictlySortedBy}
use Rattle.ifmap_changes.specs.Between.{AreBack, AreOrdered, AreParts, AreWithinLimits, Asking, CanEnd, HasStartNumber, IsSoundSoFar, IsSeen, IsSteady, rest_of, sessions_left, seen_now}
use Rattle.ifmap_changes.specs.Changes.{CanTakeBack}
use Rattle.ifmap_changes.specs.declared.changes.Made.{Made}
use Rattle.ifmap_changes.specs.declared.parts.Parts.{Parts}
use Rattle.ifmap_changes.proofs.EachPlace.{same_all}
use Rattle.ifmap_changes.proofs.Steady.{HaveSameSearches, steady_after}
use Rattle.ifmap_tellings.specs.ifmap_delta.SeenViews.{IsUpToDate, ViewSeen, SameLinks}
use Rattle.ifmap_tellings.specs.ifmap_delta.SameSearches.{HasSameSearch}
use Rattle.ifmap_tellings.specs.ifmap_delta.declared.subscriptions.Subscription.{Subscription}
use Rattle.ifmap_graph.specs.Inside.{GraphInside}
use Rattle.ifmap_graph.specs.Out.{items_changed}
use Rattle.ifmap_graph.specs.Seen.{BringsNoNumbers, IsStill, KeepsOwn, StaysLeanWithout, links_now, rows_now}
use Rattle.ifmap_lemmas.specs.Places.{all_got, something_at}
use Rattle.ifmap_tellings.specs.ifmap_machine.State as machine
use Rattle.ifmap_tellings.specs.ifmap_machine.State.{standing_in, standing_order}
use Rattle.ifmap_tellings.specs.ifmap_machine.Subscribing.{most_names}
use Rattle.ifmap_graph.specs.ifmap_plans.Plans.{AreWhole}
use Rattle.ifmap_graph.specs.ifmap_pool.Holdings.{key_at}
use Rattle.ifmap_tellings.specs.ifmap_session.Sessions.{IsLive, Session}
use Rattle.ifmap_tellings.specs.ifmap_standing.declared.standing.Standing.{Standing}
use Rattle.ifmap_tellings.specs.ifmap_standing.Kept.{AtEach, KeepsSame, StaysRelated, StaysSame}
use Rattle.ifmap_tellings.specs.ifmap_standing.Standing.{standing_of}
use Rattle.ifmap_tellings.specs.ifmap_standing.Ways.{IsWayGivenUp, LeadsBackWhere, Way}
use Rattle.ifmap_tellings.specs.declared.tellings.Pending.{Pending}
use Rattle.ifmap_tellings.specs.Tellings.{AllKept, CanTell, EachTelling, HasSameSessions, IsSized, kept_items, tell_by}
use Rattle.ifmap_graph.specs.ifmap_view.declared.attachments.Attachment.{Attachment}
use Rattle.ifmap_tellings.specs.ifmap_standing.PlaceLaws.{at_each_map, at_each_weaker, leads_search}
use Rattle.ifmap_tellings.specs.ToldLaws.{same_kept}
use Rattle.ifmap_graph.specs.NumberLaws.{numbers_shared}
use Rattle.ifmap_ident.specs.SameLaws.{BytesTellIdentifiers}

abbrev pub StaysSettled : Type 0
StaysSettled = (g : ViewSeen) (way : Option (Option Way)) (old new : Subscription) → IsWayGivenUp way old new → IsUpToDate g old →
    IsUpToDate g new

abbrev pub AreSettled : List (Option Way) → List Standing → List Standing → Type 0
AreSettled ways old new = AtEach (λ i. StaysRelated (IsWayGivenUp (slice_get ways i))) old new

-- ---- searches

one_search : (x y : Subscription) → y ≡ x → HasSameSearch x y
one_search x y e = record {
  search = ap (λ (z : Subscription). z.search) e;
  start = ap (λ (z : Subscription). z.region.start) e;
  max_depth = ap (λ (z : Subscription). z.region.max_depth) e;
}

settled_search : (way : Option (Option Way)) (x y : Subscription) → IsWayGivenUp way x y → HasSameSearch x y
settled_search None x y e = one_search x y e
settled_search (Some None) x y e = one_search x y e
settled_search (Some (Some way)) x y e = e.0

stand_weaker : (R S : Subscription → Subscription → Type 0) → ((x y : Subscription) → R x y → S x y) → (x y : Standing) → StaysRelated R x y
    → StaysRelated S x y
stand_weaker R S f x y s =
    record { serial = s.serial; name = s.name; subscription = f x.subscription y.subscription s.subscription }

pub settled_searches : (ways : List (Option Way)) (old new : List Standing) → AreSettled ways old new → HaveSameSearches old new
settled_searches ways old new s =
    at_each_weaker (λ i. StaysRelated (IsWayGivenUp (slice_get ways i))) (λ _. StaysRelated HasSameSearch)
    (λ i x y t. stand_weaker (IsWayGivenUp (slice_get ways i)) HasSameSearch (settled_search (slice_get ways i)) x y t) old new s

same_searches : (before old new : List Standing) → HaveSameSearches before old → HaveSameSearches before new → HaveSameSearches old new
same_searches before old new p q = record {
  long = q.long ∙ sym p.long;
  at = λ i x y at now.
      let z = something_at old before i x (sym p.long) at in
      let one = p.at i z.0 x z.1 at in
      let two = q.at i z.0 y z.1 now in
      record {
        serial = two.serial ∙ sym one.serial;
        name = two.name ∙ sym one.name;
        subscription = record {
          search = two.subscription.search ∙ sym one.subscription.search;
          start = two.subscription.start ∙ sym one.subscription.start;
          max_depth = two.subscription.max_depth ∙ sym one.subscription.max_depth;
        };
      };
}

-- ---- what is kept

pub kept_settled : SameLinks → StaysSettled → (old new : GraphInside) → IsSeen old → IsSeen new → rows_now new ≡ rows_now old
    → ((v : ℕ) → links_now new v ≡ links_now old v) → BringsNoNumbers old new → (ways : List (Option Way))
    → (gone : List Bool) (xs ys : List Standing) → AllByRecursion (HasStartNumber new) xs → AreSettled ways xs ys
    → AllKept (λ x. IsUpToDate (seen_now old) x.subscription) gone xs → AllKept (λ x. IsUpToDate (seen_now new) x.subscription) gone ys
kept_settled links settled old new was is rows same fewer ways gone xs ys numbered s kept = λ i y at flag.
    let x = something_at ys xs i y (sym s.long) at in
    let t = s.at i x.0 y x.1 at in
    settled (seen_now new) (slice_get ways i) x.0.subscription y.subscription t.subscription
    (links (seen_now old) (seen_now new) x.0.subscription was is rows same (numbers_shared old new fewer)
    (all_got (HasStartNumber new) xs i x.0 numbered x.1) (kept i x.0 x.1 flag))

-- ---- as the machine has them

pub same_shown : (old new : List Standing) → HaveSameSearches old new → map standing_of new ≡ map standing_of old
same_shown old new s =
    at_each_map standing_of (λ _. StaysRelated HasSameSearch)
    (λ i x y t k. record { serial = t.serial k; name = t.name k; search = t.subscription.search k }) old new s

pub same_ordered : (live : List Session) (old new : List Standing) → HaveSameSearches old new → AreOrdered live old → AreOrdered live new
same_ordered live old new s o = record {
  rising = subst (IsStrictlySortedBy standing_order) (sym (same_shown old new s)) o.rising;
  live = same_all (λ x. IsLive x.serial live) (λ x. IsLive x.serial live) (λ _. StaysRelated HasSameSearch)
      (λ i x y t h. subst (λ n. IsLive n live) (sym t.serial) h) old new s o.live;
  few = λ n. subst (λ l. length (standing_in n l) ≤ most_names) (sym (same_shown old new s)) (o.few n);
}

shown_kept : (gone : List Bool) (xs : List Standing) → map standing_of (kept_items gone xs) ≡ kept_items gone (map standing_of xs)
shown_kept [] xs = refl
shown_kept (b ∷ gone) [] = refl
shown_kept (true ∷ gone) (x ∷ xs) = shown_kept gone xs
shown_kept (false ∷ gone) (x ∷ xs) = ap (λ l. standing_of x ∷ l) (shown_kept gone xs)

pub same_left : (gone : List Bool) (old new : List Standing) → HaveSameSearches old new
    → map standing_of (kept_items gone new) ≡ map standing_of (kept_items gone old)
same_left gone old new s =
    shown_kept gone new ∙ ap (kept_items gone) (same_shown old new s) ∙ sym (shown_kept gone old)

pub same_state : (s : machine.State) (g h : List Attachment) (xs ys : List machine.Standing) → g ≡ h → xs ≡ ys
    → record s { graph = g; standing = xs } ≡ record s { graph = h; standing = ys }
same_state s g h xs ys p q = λ k. record s { graph = p k; standing = q k }

-- ---- all is ready still

pub ready_after : (a : Asking) (old new : Parts) (pending : Pending) → new.sessions ≡ old.sessions
    → HaveSameSearches old.standing.items new.standing.items
    → AllKept (λ x. IsUpToDate (seen_now new.graph) x.subscription) pending.gone.items new.standing.items
    → IsSoundSoFar a old pending → IsSoundSoFar a new pending
ready_after a old new pending same searches kept r =
    let gone = pending.gone.items in
    let xs = old.standing.items in
    let ys = new.standing.items in
    record {
      ended = subst (λ t. CanEnd a.ended t.live) (sym same) r.ended;
      ordered = subst (λ t. AreOrdered t.live ys) (sym same) (same_ordered old.sessions.live xs ys searches r.ordered);
      flags = r.flags ∙ sym searches.long;
      kept = kept;
      live = subst (λ t. AllKept (λ x. IsLive x.serial (sessions_left a t)) gone ys) (sym same)
          (same_kept (λ x. IsLive x.serial (sessions_left a old.sessions)) (λ x. IsLive x.serial (sessions_left a old.sessions))
          (λ _. StaysRelated HasSameSearch)
          (λ i x y t h. subst (λ n. IsLive n (sessions_left a old.sessions)) (sym t.serial) h) gone xs ys searches r.live);
      queues = subst (λ t. AreWithinLimits t.live) (sym same) r.queues;
      within = subst (λ t. AreWithinLimits (map (tell_by pending.tellings) (sessions_left a t))) (sym same) r.within;
      can_tell = subst (λ t. EachTelling (CanTell (rest_of a t)) pending.tellings) (sym same) r.can_tell;
      sized = subst (λ t. EachTelling (λ n u. IsSized n u t.live) pending.tellings) (sym same) r.sized;
      alone = λ n is. same_kept (λ x. x.serial ≢ n) (λ x. x.serial ≢ n) (λ _. StaysRelated HasSameSearch)
          (λ i x y t h e. h (sym t.serial ∙ e)) gone xs ys searches (r.alone n is);
    }

-- ---- all is back

pub are_back : BytesTellIdentifiers → (made : Made) (before old new : Parts) → IsSeen old.graph → IsSteady old.graph old.standing.items
    → AreParts before → CanTakeBack made before old → IsStill new.graph
    → rows_now new.graph ≡ rows_now before.graph → ((v : ℕ) → links_now new.graph v ≡ links_now before.graph v)
    → BringsNoNumbers old.graph new.graph → KeepsOwn old.graph new.graph
    → StaysLeanWithout (items_changed made.undo.plan.changes) old.graph new.graph
    → AtEach (λ _. StaysRelated KeepsSame) before.standing.items new.standing.items → new.sessions ≡ old.sessions → AreBack before new
are_back tells made before old new seen s parts can still rows links fewer own lean standing sessions =
    let ways = made.ways in
    let xs = before.standing.items in
    let led : HaveSameSearches xs old.standing.items =
    at_each_weaker (λ i. StaysRelated (LeadsBackWhere (slice_get ways i))) (λ _. StaysRelated HasSameSearch)
    (λ i x y t. stand_weaker (LeadsBackWhere (slice_get ways i)) HasSameSearch (leads_search (slice_get ways i)) x y t)
    xs old.standing.items can.standing.each in
    let back : HaveSameSearches xs new.standing.items =
    at_each_weaker (λ _. StaysRelated KeepsSame) (λ _. StaysRelated HasSameSearch)
    (λ i x y t. stand_weaker KeepsSame HasSameSearch (λ a b k. k.search) x y t) xs new.standing.items standing in
    record {
      steady = steady_after tells old.graph new.graph seen still (subst AreWhole (sym rows) parts.steady.whole) fewer own
          old.standing.items new.standing.items (same_searches xs old.standing.items new.standing.items led back) s;
      rows = rows;
      links = links;
      numbers = λ v a b p q. can.numbers v a b p (fewer v b q);
      lean = λ rest l. lean rest (can.lean rest l);
      standing = standing;
      sessions = subst (λ t. HasSameSessions before.sessions t) (sym sessions) can.sessions;
    }

-- ---- what is back is sound

pub sound_back : SameLinks → StaysSame → (old new : Parts) → IsSeen old.graph → IsSeen new.graph → AreParts old → AreBack old new
    → AreParts new
sound_back links same old new was is sound back =
    let xs = old.standing.items in
    let ys = new.standing.items in
    let searches : HaveSameSearches xs ys =
    at_each_weaker (λ _. StaysRelated KeepsSame) (λ _. StaysRelated HasSameSearch)
    (λ i x y t. stand_weaker KeepsSame HasSameSearch (λ a b k. k.search) x y t) xs ys back.standing in
    record {
      steady = back.steady;
      ordered = subst (λ live. AreOrdered live ys) (sym back.sessions.live) (same_ordered old.sessions.live xs ys searches sound.ordered);
      kept = same_all (λ x. IsUpToDate (seen_now old.graph) x.subscription) (λ x. IsUpToDate (seen_now new.graph) x.subscription)
          (λ i x y. StaysRelated KeepsSame x y × HasStartNumber new.graph y) (λ i x y t kept. stays x y t.0 t.1 kept) xs ys (record {
            long = back.standing.long;
            at = λ i x y p q. (back.standing.at i x y p q, all_got (HasStartNumber new.graph) ys i y back.steady.numbered q);
          }) sound.kept;
      within = subst AreWithinLimits (sym back.sessions.live) sound.within;
    }
  where
    stays : (x y : Standing) → StaysRelated KeepsSame x y → HasStartNumber new.graph y → IsUpToDate (seen_now old.graph) x.subscription
        → IsUpToDate (seen_now new.graph) y.subscription
    stays x y t n kept =
        let here : HasStartNumber new.graph x = ap (key_at new.graph.names) (sym t.subscription.search.start) ∙ n
        ∙ ap (λ z. Some z.start) t.subscription.search.search in
        same (seen_now new.graph) x.subscription y.subscription t.subscription
        (links (seen_now old.graph) (seen_now new.graph) x.subscription was is back.rows back.links back.numbers here kept)
