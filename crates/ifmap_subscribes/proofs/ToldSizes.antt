-- What a session is to be told once what is pending is told: which session that is, and the size of what tells of one name.
use Rattle.std.proofs.Common.{◌≡◌, ℕ, ◌+◌, ◌-◌, ◌^◌, ◌<◌, ◌≤◌, ◌==◌, min, Bool, true, false, not, Option, Some, None, IsSome, List, [], ◌∷◌, ◌++◌, map, refl, ap, ◌∙◌, sym, subst, arith, inl, inr}
use Rattle.std.proofs.lemmas.Bool.{cases_Bool, eqb-true}
use Rattle.std.proofs.lemmas.Bool.Decides.{nat_tests}
use Rattle.std.proofs.lemmas.List.Elements.{filter-append}
use Rattle.std.proofs.lemmas.List.Filters.{sum_by-filter_both}
use Rattle.std.proofs.lemmas.List.Sums.{sum_by-append}
use Rattle.std.specs.BTreeMap.{get}
use Rattle.std.specs.List.{AllByRecursion, filter, list_any}
use Rattle.std.specs.Ordering.{nat_cmp}
use Rattle.ifmap_ident.specs.declared.codes.Code.TheVariants.{PollResultsTooBig}
use Rattle.ifmap_changes.specs.ifmap_machine.Telling.{is_overfull}
use Rattle.ifmap_search.specs.declared.results.PollItem.{PollItem}
use Rattle.ifmap_search.specs.declared.results.PollItem.TheVariants as the_item
use Rattle.ifmap_search.specs.Sizes.{poll_size, queue_size, size_beside_entries}
use Rattle.ifmap_changes.specs.ifmap_session.Sessions.{IsLive, Session, is_named, session_with_serial, without_sessions}
use Rattle.ifmap_lemmas.specs.Filters.{found_all}
use Rattle.ifmap_changes.specs.ifmap_tellings.declared.tellings.Telling.{Telling}
use Rattle.ifmap_changes.specs.ifmap_tellings.declared.tellings.Telling.TheVariants as the_telling
use Rattle.ifmap_changes.specs.ifmap_tellings.Tellings.{IsSized, Tellings, tell_by, tell_if}
use Rattle.ifmap_changes.specs.ifmap_session.laws.TableLaws.{found_serial}
use Rattle.ifmap_changes.specs.ifmap_tellings.ToldLaws.{told_serial}

-- ---- sizes

-- what passes is no more than all
pub part_within : (p : PollItem → Bool) (queue : List PollItem) → queue_size (filter p queue) ≤ queue_size queue
part_within p queue = let h = sum_by-filter_both p (λ item. not (p item)) (λ item. refl) poll_size queue in omega (arith, h)

pub parts_size : (p : PollItem → Bool) (xs ys : List PollItem)
    → queue_size (filter p (xs ++ ys)) ≡ queue_size (filter p xs) + queue_size (filter p ys)
parts_size p xs ys = ap queue_size (filter-append p xs ys) ∙ sum_by-append poll_size (filter p xs) (filter p ys)

-- a least value that is the size
pub min_is_exact : (size most : ℕ) → size ≤ most → min size most ≡ size
min_is_exact size most low = omega (arith, low)

-- a queue within its limit has a size of few bits
pub queue_few : (live : List Session) (serial : ℕ) (s : Session) → AllByRecursion (λ x. is_overfull x ≡ false) live
    → session_with_serial serial live ≡ Some s → s.limit < 2 ^ 32 → queue_size s.queue ≤ 2 ^ 64 - 1
queue_few live serial s within is few =
    let full : is_overfull s ≡ false = found_all (λ x. is_overfull x ≡ false) (λ x. x.serial == serial) live within s is in
    let low : queue_size s.queue ≤ s.limit = grind (arith, nat_tests, full) in
    omega (arith, low, few)

-- ---- which session

-- what is told it
pub told_as : (tellings : Tellings) (serial : ℕ) (live : List Session) (s : Session) (t : Option Telling)
    → session_with_serial serial live ≡ Some s → get nat_cmp tellings serial ≡ t → tell_by tellings s ≡ tell_if t s
told_as tellings serial live s t is there =
    ap (λ n. tell_if (get nat_cmp tellings n) s) (found_serial serial live s is) ∙ ap (λ o. tell_if o s) there

-- what is found among those that are told was found among them before
pub found_before : (tellings : Tellings) (serial : ℕ) (live : List Session) (s : Session)
    → session_with_serial serial (map (tell_by tellings) live) ≡ Some s
    → (before : Session) × (session_with_serial serial live ≡ Some before) × (s ≡ tell_by tellings before)
found_before tellings serial [] s e = cc
found_before tellings serial (x ∷ xs) s e =
    let same : ((tell_by tellings x).serial == serial) ≡ (x.serial == serial) =
    ap (λ n. n == serial) (told_serial (get nat_cmp tellings x.serial) x) in
    elim (cases_Bool (x.serial == serial)) [
      | inl hit ↦
          let is : tell_by tellings x ≡ s = cc (rw (same ∙ hit) at e) in
          (x, rw hit refl, sym is)
      | inr miss ↦
          let r = found_before tellings serial xs s (rw (same ∙ miss) at e) in
          (r.0, rw miss r.1, r.2)
    ]

-- a serial is not among those of the sessions that ended
abbrev is_left : List ℕ → ℕ → Bool
is_left ended serial = not (list_any (λ n. n == serial) ended)

-- what is found among those that are left is found among all
pub found_left : (ended : List ℕ) (serial : ℕ) (live : List Session) (s : Session)
    → session_with_serial serial (without_sessions ended live) ≡ Some s → session_with_serial serial live ≡ Some s
found_left ended serial live s e = beside (found_serial serial (without_sessions ended live) s e) (stays live e) live e
  where
    stays : (xs : List Session) → session_with_serial serial (without_sessions ended xs) ≡ Some s → is_left ended s.serial ≡ true
    stays [] f = cc
    stays (x ∷ xs) f = elim (cases_Bool (is_left ended x.serial)) [
      | inl kept ↦ elim (cases_Bool (x.serial == serial)) [
        | inl hit ↦ let same : x ≡ s = cc (rw (kept, hit) at f) in subst (λ y. is_left ended y.serial ≡ true) same kept
        | inr miss ↦ stays xs (rw (kept, miss) at f)
      ]
      | inr goes ↦ stays xs (rw goes at f)
    ]

    beside : s.serial ≡ serial → is_left ended s.serial ≡ true → (xs : List Session)
        → session_with_serial serial (without_sessions ended xs) ≡ Some s → session_with_serial serial xs ≡ Some s
    beside same mine [] f = f
    beside same mine (x ∷ xs) f = elim (cases_Bool (x.serial == serial)) [
      | inl hit ↦
          let mine_too : is_left ended x.serial ≡ true =
          subst (λ n. is_left ended n ≡ true) (same ∙ sym (eqb-true x.serial serial hit)) mine in
          rw hit (rw (mine_too, hit) at f)
      | inr miss ↦ elim (cases_Bool (is_left ended x.serial)) [
        | inl kept ↦ rw miss (beside same mine xs (rw (kept, miss) at f))
        | inr goes ↦ rw miss (beside same mine xs (rw goes at f))
      ]
    ]

pub live_before : (ended : List ℕ) (serial : ℕ) (live : List Session) → IsLive serial (without_sessions ended live) → IsLive serial live
live_before ended serial live h = by (session_with_serial serial (without_sessions ended live)) refl h
  where
    by : (o : Option Session) → session_with_serial serial (without_sessions ended live) ≡ o → IsSome o → IsLive serial live
    by None e f = let bad : false ≡ true = f in cc
    by (Some s) e f = subst (λ o. IsSome o) (sym (found_left ended serial live s e)) refl

-- ---- what it is told

module _ (tellings : Tellings) (serial : ℕ) (live : List Session) (s : Session) (is : session_with_serial serial live ≡ Some s) where
  -- nothing more
  pub none_told : get nat_cmp tellings serial ≡ None → tell_by tellings s ≡ s
  none_told e = told_as tellings serial live s None is e

  -- items after what is queued
  module _ (items : List PollItem) (size : ℕ) (there : get nat_cmp tellings serial ≡ Some (the_telling.After items size))
      (sized : IsSized serial (the_telling.After items size) live) where
    pub after_size : size ≡ queue_size (tell_by tellings s).queue
    after_size =
        (sized s is).0
        ∙ ap (λ (t : Session). queue_size t.queue)
        (sym (told_as tellings serial live s (Some (the_telling.After items size)) is there))

    pub after_of_name : (name : List ℕ) (queued named : ℕ) → queued ≡ queue_size (filter (is_named name) s.queue)
        → named ≡ min (queue_size (filter (is_named name) items)) (2 ^ 64 - 1)
        → queued + named ≡ queue_size (filter (is_named name) (tell_by tellings s).queue)
    after_of_name name queued named first second =
        let all = (sized s is).0 in
        let low = (sized s is).1 in
        let both = sum_by-append poll_size s.queue items in
        let part = part_within (is_named name) items in
        let fits : named ≡ queue_size (filter (is_named name) items) =
        second ∙ min_is_exact (queue_size (filter (is_named name) items)) (2 ^ 64 - 1) (omega (arith, all, low, both, part)) in
        let sizes = parts_size (is_named name) s.queue items in
        let told : queue_size (filter (is_named name) (s.queue ++ items)) ≡ queue_size (filter (is_named name) (tell_by tellings s).queue) =
        ap (λ (t : Session). queue_size (filter (is_named name) t.queue))
        (sym (told_as tellings serial live s (Some (the_telling.After items size)) is there)) in
        omega (arith, first, fits, sizes, told)

  -- one error in place of all
  module _ (error : PollItem) (there : get nat_cmp tellings serial ≡ Some (the_telling.Alone error))
      (sized : IsSized serial (the_telling.Alone error) live) where
    alone_queue : (tell_by tellings s).queue ≡ the_item.Error None PollResultsTooBig sized.0 ∷ []
    alone_queue =
        ap (λ (t : Session). t.queue) (told_as tellings serial live s (Some (the_telling.Alone error)) is there)
        ∙ ap (λ (item : PollItem). item ∷ []) sized.1

    pub alone_size : size_beside_entries ≡ queue_size (tell_by tellings s).queue
    alone_size = sym (ap queue_size alone_queue)

    pub alone_of_name : (name : List ℕ) → 0 ≡ queue_size (filter (is_named name) (tell_by tellings s).queue)
    alone_of_name name = sym (ap (λ queue. queue_size (filter (is_named name) queue)) alone_queue)
