-- News of subscriptions, one after another. What there is to queue of the next (`queued_next`), at the end (`queued_none`), and of what
-- is gone (`left_alone`). Then how far the queueing has come (`Queueing`): as it begins, one further, and at its end.
use Rattle.std.proofs.Common.{◌≡◌, ◌≢◌, refl, sym, ◌∙◌, ap, subst, ℕ, zero, suc, ◌+◌, ◌<◌, ◌==◌, Bool, true, false, cond, List, [], ◌∷◌, ◌++◌, length, drop, get_or, drop-cons, Some, inl, inr, append_assoc, arith}
use Rattle.std.proofs.lemmas.Bool.{cases_Bool, cases_eq, eq-eqb, ne_eqb}
use Rattle.std.proofs.lemmas.List.{append-nil}
use Rattle.std.proofs.lemmas.Option.{get_or_from_slice_get}
use Rattle.std.specs.BTreeMap.{get}
use Rattle.std.specs.List.{slice_get}
use Rattle.std.specs.Ordering.{nat_cmp}
use Rattle.ifmap_lemmas.specs.Fronts.{both_empty}
use Rattle.ifmap_lemmas.specs.Having.{Has, has_from}
use Rattle.ifmap_search.specs.declared.results.PollItem.{PollItem}
use Rattle.ifmap_standing.specs.ifmap_session.Sessions.{Session}
use Rattle.ifmap_standing.specs.declared.standing.Standing.{Standing}
use Rattle.ifmap_standing.specs.declared.telling.News.{News}
use Rattle.ifmap_tellings.specs.Tellings.{AddsTo, AllKept, AreUntoldWithinLimits, EachTelling, IsSized, LeaveAlone, SkipsGone, Tellings, is_alone, items_for}
use Rattle.ifmap_tellings.proofs.AddedLaws.{adds_both, adds_nothing}

-- what there is of one subscription for a session
abbrev pub of_one : ℕ → Standing → News → List PollItem
of_one n x one = cond (x.serial == n) one.items []

pub queued_next : (n : ℕ) (x : Standing) (xs : List Standing) (one : News) (rest : List News)
    → items_for n (x ∷ xs) (one ∷ rest) ≡ of_one n x one ++ items_for n xs rest
queued_next n x xs one rest = elim (cases_Bool (x.serial == n)) [
  | inl hit ↦ rw hit refl
  | inr miss ↦ rw miss refl
]

pub queued_none : (n : ℕ) (xs : List Standing) → items_for n xs [] ≡ []
queued_none n [] = refl
queued_none n (x ∷ xs) = refl

none_of : (n : ℕ) (x : Standing) (one : News) → one.items ≡ [] → of_one n x one ≡ []
none_of n x one e = elim (cases_Bool (x.serial == n)) [ inl hit ↦ rw hit e | inr miss ↦ rw miss refl ]

-- nothing is queued for a session all of whose subscriptions are gone
pub left_alone : (n : ℕ) (standing : List Standing) (gone : List Bool) (news : List News) → length gone ≡ length standing
    → AllKept (λ x. x.serial ≢ n) gone standing → SkipsGone gone news → items_for n standing news ≡ []
left_alone n [] gone [] long kept skips = refl
left_alone n [] gone (one ∷ news) long kept skips = refl
left_alone n (x ∷ standing) gone [] long kept skips = refl
left_alone n (x ∷ standing) [] (one ∷ news) long kept skips = absurd (omega (arith, long))
left_alone n (x ∷ standing) (flag ∷ gone) (one ∷ news) long kept skips =
    queued_next n x standing one news ∙ ap (λ items. items ++ items_for n standing news) (first flag refl)
    ∙ left_alone n standing gone news (omega (arith, long)) (λ i y e f. kept (suc i) y e f) (λ i two f e. skips (suc i) two f e)
  where
    first : (b : Bool) → flag ≡ b → of_one n x one ≡ []
    first true is = none_of n x one (skips zero one (ap Some is) refl)
    first false is = ap (λ b. cond b one.items []) (ne_eqb x.serial n (kept zero x refl (ap Some is)))

-- how far it has come: these news are left
pub record Queueing (live : List Session) (standing : List Standing) (news : List News) (old now : Tellings) (at : ℕ)
    (left : List News) : Type 0 where
  pub added : (n : ℕ) → (before : List PollItem) × AddsTo before (get nat_cmp old n) (get nat_cmp now n)
      × (before ++ items_for n (drop at standing) left ≡ items_for n standing news)
  pub others : (n : ℕ) → ((x : Standing) → Has standing x → x.serial ≢ n) → get nat_cmp now n ≡ get nat_cmp old n
  pub sized : EachTelling (λ n t. IsSized n t live) now
  pub long : at + length left ≡ length standing

pub queueing_first : (live : List Session) (standing : List Standing) (news : List News) (old : Tellings)
    → EachTelling (λ n t. IsSized n t live) old → length news ≡ length standing → Queueing live standing news old old 0 news
queueing_first live standing news old sized long = record {
  added = λ n. ([], adds_nothing (get nat_cmp old n), refl);
  others = λ n none. refl;
  sized = sized;
  long = omega (arith, long);
}

module _ (live : List Session) (standing : List Standing) (news : List News) (old now : Tellings) (at : ℕ) (left : List News)
    (q : Queueing live standing news old now at left) where
  pub still_within : AreUntoldWithinLimits old live → AreUntoldWithinLimits now live
  still_within within = λ n s e none. within n s e ((q.added n).1.kept none)

  -- the place that is next
  pub next_within : (one : News) (rest : List News) → left ≡ one ∷ rest → at < length standing
  next_within one rest e = let long : at + length (one ∷ rest) ≡ length standing = ap (λ l. at + length l) (sym e) ∙ q.long in
      omega (arith, long)

  pub queueing_end : left ≡ [] → (n : ℕ) → AddsTo (items_for n standing news) (get nat_cmp old n) (get nat_cmp now n)
  queueing_end none n =
      let a = q.added n in
      let all : a.0 ≡ items_for n standing news =
      sym (append-nil a.0) ∙ sym (ap (λ items. a.0 ++ items) (ap (items_for n (drop at standing)) none
      ∙ queued_none n (drop at standing))) ∙ a.2 in
      subst (λ items. AddsTo items (get nat_cmp old n) (get nat_cmp now n)) all a.1

  module _ (one : News) (rest : List News) (x : Standing) (cut : left ≡ one ∷ rest) (here : slice_get standing at ≡ Some x) where
    is : x ≡ get_or standing at x
    is = sym (get_or_from_slice_get standing at x x here)

    has_next : Has standing x
    has_next = has_from standing x (at, next_within one rest cut, sym is)

    -- what is left for a session is what there is of the next, and then the rest
    left_next : (n : ℕ) → items_for n (drop at standing) left ≡ of_one n x one ++ items_for n (drop (at + 1) standing) rest
    left_next n =
        let e : at + 1 ≡ suc at = omega arith in
        let place : drop at standing ≡ x ∷ drop (at + 1) standing =
        drop-cons standing at x (next_within one rest cut) ∙ ap (λ y. y ∷ drop (suc at) standing) (sym is)
        ∙ ap (λ i. x ∷ drop i standing) (sym e) in
        ap (λ xs. items_for n xs left) place ∙ ap (items_for n (x ∷ drop (at + 1) standing)) cut
        ∙ queued_next n x (drop (at + 1) standing) one rest

    of_own : of_one x.serial x one ≡ one.items
    of_own = ap (λ b. cond b one.items []) (eq-eqb x.serial x.serial refl)

    -- who is alone has nothing more to queue
    pub next_alone : LeaveAlone old standing news → is_alone (get nat_cmp now x.serial) ≡ true → one.items ≡ []
    next_alone leave alone =
        let a = q.added x.serial in
        let none : a.0 ++ items_for x.serial (drop at standing) left ≡ [] = a.2 ∙ leave x.serial (sym a.1.alone ∙ alone) in
        let all : of_one x.serial x one ++ items_for x.serial (drop (at + 1) standing) rest ≡ [] =
        sym (left_next x.serial) ∙ (both_empty a.0 (items_for x.serial (drop at standing) left) none).1 in
        sym of_own ∙ (both_empty (of_one x.serial x one) (items_for x.serial (drop (at + 1) standing) rest) all).0

    module _ (after : Tellings) (adds : AddsTo one.items (get nat_cmp now x.serial) (get nat_cmp after x.serial))
        (others : (n : ℕ) → n ≢ x.serial → get nat_cmp after n ≡ get nat_cmp now n) where
      adds_next : (n : ℕ) → AddsTo (of_one n x one) (get nat_cmp now n) (get nat_cmp after n)
      adds_next n = elim (cases_eq x.serial n) [
        | inl same ↦ subst (λ m. AddsTo (of_one m x one) (get nat_cmp now m) (get nat_cmp after m)) same
            (subst (λ items. AddsTo items (get nat_cmp now x.serial) (get nat_cmp after x.serial)) (sym of_own) adds)
        | inr apart ↦ subst (λ b. AddsTo (cond b one.items []) (get nat_cmp now n) (get nat_cmp after n))
            (sym (ne_eqb x.serial n apart))
            (subst (λ o. AddsTo [] (get nat_cmp now n) o) (sym (others n (λ e. apart (sym e)))) (adds_nothing (get nat_cmp now n)))
      ]

      pub queueing_next : EachTelling (λ n t. IsSized n t live) after → Queueing live standing news old after (at + 1) rest
      queueing_next sized = record {
        added = λ n. let a = q.added n in (
          a.0 ++ of_one n x one,
          adds_both a.0 (of_one n x one) (get nat_cmp old n) (get nat_cmp now n) (get nat_cmp after n) a.1 (adds_next n),
          append_assoc a.0 (of_one n x one) (items_for n (drop (at + 1) standing) rest)
              ∙ ap (λ items. a.0 ++ items) (sym (left_next n)) ∙ a.2,
        );
        others = λ n none. others n (λ e. none x has_next (sym e)) ∙ q.others n none;
        sized = sized;
        long = let long : at + length (one ∷ rest) ≡ length standing = ap (λ l. at + length l) (sym cut) ∙ q.long in
            omega (arith, long);
      }

pub no_news : (news : List News) → length news ≡ 0 → news ≡ []
no_news [] e = refl
no_news (one ∷ news) e = absurd (omega (arith, e))
