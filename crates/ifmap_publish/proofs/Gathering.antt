-- What many rows make of a list, each instead of the one with its key.
-- 1. What a search by keys finds, key by key (`keyed_more`, `keyed_none`), is all that has one of
--    them.
-- 2. What is taken then is all that has one of the keys (`keys_taken`), and what is put is the new
--    rows over the others (`keyed_over`).
-- 3. Rows over the keys of a list: over rows that are over a list, they are those of both
--    (`over_over`).
-- 4. So rows one after the other are the last of each key, over the list (`attached_over`).
-- 5. So the edit that takes what is found and puts the last rows makes that list (`makes_all`).
use Rattle.std.proofs.Common.{◌≡◌, ◌⊎◌, ◌∙◌, refl, sym, ap, subst, inl, inr, ℕ, ◌+◌, ◌<◌, Bool, true, false, not, ◌||◌, List, [], ◌∷◌, ◌++◌}
use Rattle.std.proofs.Common.{get_or, length, take}
use Rattle.std.proofs.Math.Bool.{or-false, or_assoc}
use Rattle.std.proofs.lemmas.Bool.{cases_Bool, not-true, or_parts}
use Rattle.std.proofs.lemmas.List.{take_more}
use Rattle.std.proofs.lemmas.List.Folds.{list_any-append}
use Rattle.std.proofs.lemmas.List.Kept.{IsStrictlySortedBy-filter}
use Rattle.std.proofs.lemmas.List.Sorted.{Contains-permutation, IsPermutation-sym, list_any-IsPermutation}
use Rattle.std.specs.List.{AllByRecursion, Contains, IsDistinct, filter}
use Rattle.std.specs.List.Sorted.{IsPermutation, IsStrictlySortedBy}
use Rattle.std.specs.Ordering.{eq_by_cmp, is_gt, is_lt}
use Rattle.ifmap_lemmas.specs.Choices.{fails_too}
use Rattle.ifmap_lemmas.specs.Filtered.{filter_agrees}
use Rattle.ifmap_lemmas.specs.Filters.{all_around, all_filter, all_weaker, filter_all, filter_passes}
use Rattle.ifmap_lemmas.specs.Having.{Has, all_has, any_has, filter_has, from_has, has_all, has_any, has_either, has_filter, has_from}
use Rattle.ifmap_lemmas.specs.Rising.{nothing_rises, rising_same}
use Rattle.ifmap_lemmas.specs.Stepping.{member_holds}
use Rattle.ifmap_meta.specs.declared.stored.Stored.{Stored}
use Rattle.ifmap_meta.specs.Keys.{HaveOneKey, same_key}
use Rattle.ifmap_meta.specs.Whole.{IsWhole}
use Rattle.ifmap_rows.specs.ifmap_plans.Lists.{is_among, list_without, next_on, put_each}
use Rattle.ifmap_rows.specs.ifmap_plans.Placing.{put}
use Rattle.ifmap_rows.specs.ifmap_plans.laws.KeyLaws.{stored_equiv, stored_total}
use Rattle.ifmap_rows.specs.laws.JoiningLaws.{each_in, in_each, rising_each}
use Rattle.ifmap_view.specs.Attachments.{stored_order}
use Rattle.ifmap_publish.specs.OnItems.{attach_all, attach_on}
use Rattle.ifmap_publish.specs.Working.{AreKeyed, EditMakes, IsSound, is_keyed, over_keys}
use Rattle.ifmap_publish.specs.declared.edits.Edit.{Edit}
use Rattle.ifmap_publish.proofs.Attaching.{sound_attached}
use Rattle.ifmap_publish.proofs.Editing.{apart_of_keys, key_not_told, key_told, makes_less, makes_more, tied_key}
use Rattle.ifmap_publish.proofs.Rising.{keyed_ties, put_filtered, put_itself}

-- ---- what is found by keys

module _ (list : List Stored) (s : IsSound list) where
  pub none_keyed : (found : List Stored) → found ≡ [] → AreKeyed list [] found
  none_keyed found is = subst (AreKeyed list []) (sym is) (record { there = λ x h. absurd h; among = λ x h. refl })

  module _ (keys : List Stored) (i : ℕ) (row : Stored) (low : i < length keys) (at : row ≡ get_or keys i row)
      (whole : AllByRecursion IsWhole keys) (found : List Stored) (so : AreKeyed list (take i keys) found) where
    w : IsWhole row
    w = member_holds IsWhole keys i row low at whole

    next_keys : take (i + 1) keys ≡ take i keys ++ row ∷ []
    next_keys = take_more keys i row low ∙ ap (λ (r : Stored). take i keys ++ r ∷ []) (sym at)

    keyed_next : (x : Stored) → is_keyed (take (i + 1) keys) x ≡ (is_keyed (take i keys) x || same_key row x)
    keyed_next x =
        ap (λ l. is_keyed l x) next_keys
        ∙ list_any-append (λ r. same_key r x) (take i keys) (row ∷ [])
        ∙ ap (λ b. is_keyed (take i keys) x || b) (or-false (same_key row x))

    pub keyed_more : (f : Stored) → Contains list f → HaveOneKey row f → (next : List Stored) → next ≡ found ++ f ∷ []
        → AreKeyed list (take (i + 1) keys) next
    keyed_more f c h next is =
        let has : Has list f = has_from list f c in
        let key : same_key row f ≡ true = key_told row f w (all_has IsWhole list s.whole f has) h in
        record {
          there = λ x k. elim (has_either found (f ∷ []) x (subst (λ l. Has l x) is k)) [
            | inl a ↦ so.there x a
            | inr b ↦ elim b [ inl e ↦ subst (Has list) e has | inr n ↦ absurd n ]
          ];
          among = λ x k.
              ap (λ l. is_among l x) is
              ∙ list_any-append (λ r. eq_by_cmp stored_order r x) found (f ∷ [])
              ∙ ap (λ b. b || (eq_by_cmp stored_order f x || false)) (so.among x k)
              ∙ ap (λ b. is_keyed (take i keys) x || b)
              (or-false (eq_by_cmp stored_order f x) ∙ keyed_ties row f list s.keyed.rising s.keyed.keys has key x k)
              ∙ sym (keyed_next x);
        }

    pub keyed_none : AllByRecursion (λ t. HaveOneKey row t → ⊥) list → (next : List Stored) → next ≡ found
        → AreKeyed list (take (i + 1) keys) next
    keyed_none none next is = subst (AreKeyed list (take (i + 1) keys)) (sym is) (record {
      there = so.there;
      among = λ x k.
          so.among x k
          ∙ sym (ap (λ b. is_keyed (take i keys) x || b)
          (key_not_told row x w (all_has IsWhole list s.whole x k) (all_has (λ t. HaveOneKey row t → ⊥) list none x k))
          ∙ or-false (is_keyed (take i keys) x))
          ∙ sym (keyed_next x);
    })

pub keyed_sorted : (list keys all found next : List Stored) → IsPermutation found next → keys ≡ all → AreKeyed list keys found
    → AreKeyed list all next
keyed_sorted list keys all found next p e so = subst (λ l. AreKeyed list l next) e (record {
  there = λ x h. so.there x
      (has_from found x (Contains-permutation next found x (IsPermutation-sym found next p) (from_has next x h)));
  among = λ x h. sym (list_any-IsPermutation (λ r. eq_by_cmp stored_order r x) found next p) ∙ so.among x h;
})

-- ---- what is taken and put then

-- members of a list that come to what a filter leaves of it
pub put_found : (list : List Stored) → IsStrictlySortedBy stored_order list → (t : Stored → Bool) (found : List Stored)
    → ((s : Stored) → Has found s → Has list s)
    → put_each found (filter t list) ≡ filter (λ s. t s || is_among found s) list
put_found list up t [] there = filter_agrees t (λ s. t s || false) list (λ s h. sym (or-false (t s)))
put_found list up t (f ∷ fs) there =
    let t2 : Stored → Bool = λ s. t s || eq_by_cmp stored_order f s in
    ap (put_each fs) (sym (put_filtered t f list) ∙ ap (filter t2) (put_itself f list up (there f (inl refl))))
    ∙ put_found list up t2 fs (λ s h. there s (inr h))
    ∙ filter_agrees (λ s. t2 s || is_among fs s) (λ s. t s || is_among (f ∷ fs) s) list
    (λ s h. or_assoc (t s) (eq_by_cmp stored_order f s) (is_among fs s))

pub keys_taken : (stored taken keys found : List Stored) → IsSound stored → taken ≡ filter (is_among taken) stored
    → AreKeyed stored keys found → put_each found taken ≡ filter (λ s. is_among taken s || is_keyed keys s) stored
keys_taken stored taken keys found s is so =
    ap (put_each found) is
    ∙ put_found stored s.keyed.rising (is_among taken) found so.there
    ∙ filter_agrees (λ x. is_among taken x || is_among found x) (λ x. is_among taken x || is_keyed keys x) stored
    (λ x h. ap (λ b. is_among taken x || b) (so.among x h))

pub keyed_over : (rows keys found : List Stored) → AreKeyed rows keys found → next_on found keys rows ≡ over_keys rows keys
keyed_over rows keys found so =
    ap (put_each keys) (filter_agrees (λ s. not (is_among found s)) (λ s. not (is_keyed keys s)) rows (λ s h. ap not (so.among s h)))

-- ---- rows over the keys of a list

tied_keyed : (x : Stored) (keys : List Stored) → IsWhole x → AllByRecursion IsWhole keys → is_among keys x ≡ true → is_keyed keys x ≡ true
tied_keyed x keys w all e =
    let t = any_has (λ r. eq_by_cmp stored_order r x) keys e in
    has_any (λ r. same_key r x) keys t.0 t.1 (tied_key t.0 x (all_has IsWhole keys all t.0 t.1) w t.2)

-- what has none of the keys has none of the bytes
pub keyed_apart : (rows keys found : List Stored) → AllByRecursion IsWhole rows → AllByRecursion IsWhole keys → AreKeyed rows keys found
    → list_without keys (list_without found rows) ≡ list_without found rows
keyed_apart rows keys found wr wk so =
    filter_all (λ s. not (is_among keys s)) (list_without found rows)
    (has_all (λ s. not (is_among keys s) ≡ true) (list_without found rows) (λ x h.
    let p = filter_has (λ s. not (is_among found s)) rows x h in
    ap not (fails_too (is_among keys x) (is_keyed keys x) (tied_keyed x keys (all_has IsWhole rows wr x p.0) wk)
    (sym (so.among x p.0) ∙ not-true (is_among found x) p.1))))

module _ (list more : List Stored) (wl : AllByRecursion IsWhole list) (wm : AllByRecursion IsWhole more) where
  abbrev others : List Stored
  others = filter (λ s. not (is_keyed more s)) list

  over_has : (x : Stored) → Has (over_keys list more) x → Has more x ⊎ (Has list x × (is_keyed more x ≡ false))
  over_has x h = elim (each_in more others x h) [
    | inl k ↦ inl k
    | inr k ↦
        let p = filter_has (λ s. not (is_among more s)) others x k in
        let q = filter_has (λ s. not (is_keyed more s)) list x p.0 in
        inr (q.0, not-true (is_keyed more x) q.1)
  ]

  over_whole : AllByRecursion IsWhole (over_keys list more)
  over_whole = has_all IsWhole (over_keys list more) (λ x h. elim (over_has x h) [
    | inl k ↦ all_has IsWhole more wm x k
    | inr k ↦ all_has IsWhole list wl x k.0
  ])

  over_rises : IsStrictlySortedBy stored_order list → IsStrictlySortedBy stored_order (over_keys list more)
  over_rises up = rising_each more others (IsStrictlySortedBy-filter stored_order (λ s. not (is_keyed more s)) list up)

  module _ (up : IsStrictlySortedBy stored_order more) (x : Stored) where
    has_new : Has more x → Has (over_keys list more) x
    has_new h = in_each more others x up (inl h)

    has_old : Has list x → is_keyed more x ≡ false → Has (over_keys list more) x
    has_old h e =
        let apart : is_among more x ≡ false =
        fails_too (is_among more x) (is_keyed more x) (tied_keyed x more (all_has IsWhole list wl x h) wm) e in
        in_each more others x up (inr (has_filter (λ s. not (is_among more s)) others x
        (has_filter (λ s. not (is_keyed more s)) list x h (ap not e)) (ap not apart)))

module _ (l a b : List Stored) (ul : IsStrictlySortedBy stored_order l) (ua : IsStrictlySortedBy stored_order a)
    (ub : IsStrictlySortedBy stored_order b) (wl : AllByRecursion IsWhole l) (wa : AllByRecursion IsWhole a)
    (wb : AllByRecursion IsWhole b) where
  abbrev ab : List Stored
  ab = over_keys a b

  keyed_late : (x : Stored) → is_keyed b x ≡ true → is_keyed ab x ≡ true
  keyed_late x e =
      let t = any_has (λ r. same_key r x) b e in
      has_any (λ r. same_key r x) ab t.0 (has_new a b wa wb ub t.0 t.1) t.2

  keyed_early : (x : Stored) → is_keyed a x ≡ true → is_keyed ab x ≡ true
  keyed_early x e =
      let t = any_has (λ r. same_key r x) a e in
      elim (cases_Bool (is_keyed b t.0)) [
        | inl over ↦
            let u = any_has (λ r. same_key r t.0) b over in
            keyed_late x (has_any (λ r. same_key r x) b u.0 u.1 (stored_equiv.congr u.0 t.0 x u.2 ∙ t.2))
        | inr stays ↦ has_any (λ r. same_key r x) ab t.0 (has_old a b wa wb ub t.0 t.1 stays) t.2
      ]

  keyed_either : (x : Stored) → is_keyed ab x ≡ true → (is_keyed a x ≡ true) ⊎ (is_keyed b x ≡ true)
  keyed_either x e =
      let t = any_has (λ r. same_key r x) ab e in
      elim (over_has a b wa wb t.0 t.1) [
        | inl k ↦ inr (has_any (λ r. same_key r x) b t.0 k t.2)
        | inr k ↦ inl (has_any (λ r. same_key r x) a t.0 k.0 t.2)
      ]

  neither : (x : Stored) → is_keyed a x ≡ false → is_keyed b x ≡ false → is_keyed ab x ≡ false
  neither x na nb = elim (cases_Bool (is_keyed ab x)) [
    | inl e ↦ elim (keyed_either x e) [
      | inl k ↦ let bad : true ≡ false = sym k ∙ na in cc
      | inr k ↦ let bad : true ≡ false = sym k ∙ nb in cc
    ]
    | inr e ↦ e
  ]

  to : (x : Stored) → Has (over_keys (over_keys l a) b) x → Has (over_keys l ab) x
  to x h = elim (over_has (over_keys l a) b (over_whole l a wl wa) wb x h) [
    | inl hb ↦ has_new l ab wl (over_whole a b wa wb) (over_rises a b wa wb ua) x (has_new a b wa wb ub x hb)
    | inr p ↦ elim (over_has l a wl wa x p.0) [
      | inl ha ↦ has_new l ab wl (over_whole a b wa wb) (over_rises a b wa wb ua) x (has_old a b wa wb ub x ha p.1)
      | inr q ↦ has_old l ab wl (over_whole a b wa wb) (over_rises a b wa wb ua) x q.0 (neither x q.1 p.1)
    ]
  ]

  back : (x : Stored) → Has (over_keys l ab) x → Has (over_keys (over_keys l a) b) x
  back x h = elim (over_has l ab wl (over_whole a b wa wb) x h) [
    | inl hab ↦ elim (over_has a b wa wb x hab) [
      | inl hb ↦ has_new (over_keys l a) b (over_whole l a wl wa) wb ub x hb
      | inr p ↦ has_old (over_keys l a) b (over_whole l a wl wa) wb ub x (has_new l a wl wa ua x p.0) p.1
    ]
    | inr p ↦
        let na : is_keyed a x ≡ false = fails_too (is_keyed a x) (is_keyed ab x) (keyed_early x) p.1 in
        let nb : is_keyed b x ≡ false = fails_too (is_keyed b x) (is_keyed ab x) (keyed_late x) p.1 in
        has_old (over_keys l a) b (over_whole l a wl wa) wb ub x (has_old l a wl wa ua x p.0 na) nb
  ]

  pub over_over : over_keys (over_keys l a) b ≡ over_keys l ab
  over_over =
      rising_same stored_order stored_total (over_keys (over_keys l a) b) (over_keys l ab)
      (over_rises (over_keys l a) b (over_whole l a wl wa) wb (over_rises l a wl wa ul))
      (over_rises l ab wl (over_whole a b wa wb) ul) to back

-- ---- rows one after the other

one_over : (list : List Stored) (s : Stored) → attach_on list s ≡ over_keys list (s ∷ [])
one_over list s =
    ap (put stored_order s) (filter_agrees (λ t. not (same_key s t)) (λ t. not (same_key s t || false)) list
    (λ t h. ap not (sym (or-false (same_key s t)))))

none_distinct : IsDistinct same_key []
unfolding IsDistinct
none_distinct = tt

one_rises : (s : Stored) → IsStrictlySortedBy stored_order (s ∷ [])
unfolding IsStrictlySortedBy
one_rises s = (tt, tt)

pub none_sound : IsSound []
none_sound = record { keyed = record { rising = nothing_rises stored_order; keys = none_distinct }; whole = tt }

pub all_sound : (rows list : List Stored) → AllByRecursion IsWhole rows → IsSound list → IsSound (attach_all list rows)
all_sound [] list w s = s
all_sound (r ∷ rows) list w s = all_sound rows (attach_on list r) w.1 (sound_attached r list w.0 s)

all_over : (rows l c : List Stored) → AllByRecursion IsWhole rows → IsSound l → IsSound c
    → attach_all (over_keys l c) rows ≡ over_keys l (attach_all c rows)
all_over [] l c w sl sc = refl
all_over (r ∷ rows) l c w sl sc =
    ap (λ x. attach_all x rows)
    (one_over (over_keys l c) r
    ∙ over_over l c (r ∷ []) sl.keyed.rising sc.keyed.rising (one_rises r) sl.whole sc.whole (w.0, tt)
    ∙ ap (over_keys l) (sym (one_over c r)))
    ∙ all_over rows l (attach_on c r) w.1 sl (sound_attached r c w.0 sc)

over_none : (l : List Stored) → over_keys l [] ≡ l
over_none [] = refl
over_none (x ∷ l) = ap (λ t. x ∷ t) (over_none l)

-- rows one after the other are the last of each key, over the list
pub attached_over : (rows l : List Stored) → AllByRecursion IsWhole rows → IsSound l → attach_all l rows ≡ over_keys l (attach_all [] rows)
attached_over rows l w s = ap (λ x. attach_all x rows) (sym (over_none l)) ∙ all_over rows l [] w s none_sound

attach_joined : (front rest l : List Stored) → attach_all (attach_all l front) rest ≡ attach_all l (front ++ rest)
attach_joined [] rest l = refl
attach_joined (r ∷ front) rest l = attach_joined front rest (attach_on l r)

pub whole_parts : (front rest : List Stored) → AllByRecursion IsWhole (front ++ rest)
    → AllByRecursion IsWhole front × AllByRecursion IsWhole rest
whole_parts [] rest w = (tt, w)
whole_parts (r ∷ front) rest w = let p = whole_parts front rest w.1 in ((w.0, p.0), p.1)

pub halves : (front rest : List Stored) → AllByRecursion IsWhole front → AllByRecursion IsWhole rest
    → over_keys (attach_all [] front) (attach_all [] rest) ≡ attach_all [] (front ++ rest)
halves front rest v w = sym (attached_over rest (attach_all [] front) w (all_sound front [] v none_sound)) ∙ attach_joined front rest []

pub one_attached : (list : List Stored) (s one : Stored) → one ≡ s → over_keys list (one ∷ []) ≡ attach_on list s
one_attached list s one is = ap (λ r. over_keys list (r ∷ [])) is ∙ sym (one_over list s)

-- ---- what edit makes it

key_differs : (r : Stored) (more : List Stored) → AllByRecursion (λ y. same_key r y ≡ false) more → is_keyed more r ≡ false
key_differs r [] d = refl
key_differs r (q ∷ more) d = ap (λ b. b || is_keyed more r) (stored_equiv.symm q r ∙ d.0) ∙ key_differs r more d.1

pub makes_each : (stored : List Stored) → IsStrictlySortedBy stored_order stored → (more list : List Stored) (e e2 : Edit)
    → EditMakes stored e list → AllByRecursion IsWhole more → IsDistinct same_key more → AllByRecursion (λ s. is_keyed more s ≡ false) list
    → e2.taken ≡ e.taken → e2.put ≡ put_each more e.put → EditMakes stored e2 (put_each more list)
unfolding IsDistinct
makes_each stored up [] list e e2 m w d n taken came =
    subst (λ (x : Edit). EditMakes stored x list) (λ i. record { taken = sym taken i; put = sym came i }) m
makes_each stored up (r ∷ more) list e e2 m w d n taken came =
    let parts : AllByRecursion (λ s. (same_key r s ≡ false) × (is_keyed more s ≡ false)) list =
    all_weaker (λ s. is_keyed (r ∷ more) s ≡ false) (λ s. (same_key r s ≡ false) × (is_keyed more s ≡ false))
    (λ s h. or_parts (same_key r s) (is_keyed more s) h) list n in
    let differ : AllByRecursion (λ s. same_key r s ≡ false) list =
    all_weaker (λ s. (same_key r s ≡ false) × (is_keyed more s ≡ false)) (λ s. same_key r s ≡ false) (λ s h. h.0) list parts in
    let left : AllByRecursion (λ s. is_keyed more s ≡ false) list =
    all_weaker (λ s. (same_key r s ≡ false) × (is_keyed more s ≡ false)) (λ s. is_keyed more s ≡ false) (λ s h. h.1) list parts in
    let between : Edit = record { taken = e.taken; put = put stored_order r e.put } in
    let sound : IsSound (put stored_order r list) =
    subst (λ l. IsSound (put stored_order r l)) (filter_all (λ t. not (same_key r t)) list
    (all_weaker (λ s. same_key r s ≡ false) (λ s. not (same_key r s) ≡ true) (λ s h. ap not h) list differ))
    (sound_attached r list w.0 m.sound) in
    let one : EditMakes stored between (put stored_order r list) =
    makes_more stored list e between up m r w.0 differ (apart_of_keys r list w.0 m.sound.whole differ) refl refl sound in
    makes_each stored up more (put stored_order r list) between e2 one w.1 d.1
    (all_around (λ s. is_keyed more s ≡ false) (filter (λ y. is_lt (stored_order y r)) list) r (filter (λ y. is_gt (stored_order y r)) list)
    (all_filter (λ s. is_keyed more s ≡ false) (λ y. is_lt (stored_order y r)) list left) (key_differs r more d.0)
    (all_filter (λ s. is_keyed more s ≡ false) (λ y. is_gt (stored_order y r)) list left)) taken came

pub last_sound : (rows last : List Stored) → AllByRecursion IsWhole rows → last ≡ attach_all [] rows → IsSound last
last_sound rows last w is = subst IsSound (sym is) (all_sound rows [] w none_sound)

pub makes_all : (stored list : List Stored) (e e2 : Edit) (rows last : List Stored) → IsStrictlySortedBy stored_order stored
    → EditMakes stored e list → AllByRecursion IsWhole rows → last ≡ attach_all [] rows
    → e2.taken ≡ filter (λ s. is_among e.taken s || is_keyed last s) stored → e2.put ≡ over_keys e.put last
    → EditMakes stored e2 (attach_all list rows)
makes_all stored list e e2 rows last up m w is taken came =
    let between : Edit = record { taken = e2.taken; put = filter (λ s. not (is_keyed last s)) e.put } in
    let others = filter (λ s. not (is_keyed last s)) list in
    let less : EditMakes stored between others = makes_less stored list e between up m (is_keyed last) taken refl in
    let none : AllByRecursion (λ s. is_keyed last s ≡ false) others =
    all_weaker (λ s. not (is_keyed last s) ≡ true) (λ s. is_keyed last s ≡ false) (λ s h. not-true (is_keyed last s) h) others
    (filter_passes (λ s. not (is_keyed last s)) list) in
    let sound = last_sound rows last w is in
    subst (EditMakes stored e2) (sym (attached_over rows list w m.sound ∙ ap (over_keys list) (sym is)))
    (makes_each stored up last others between e2 less sound.whole sound.keyed.keys none refl came)
