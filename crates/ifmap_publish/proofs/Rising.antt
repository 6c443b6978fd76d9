-- Members of lists that rise, found again in what a filter leaves of them.
-- The plan: those of one place are one, and where keys are distinct those of one key, so one of a key stands where that of its place
-- does (keyed_ties), and a member is among what a filter leaves where it passes
-- (among_filter); one that is put passes or not with the rest, which stands below and above it (put_filtered, put_unfiltered, parted);
-- so what passes, put on what does not, is all (put_back), and lists that share what stays differ in what was taken and put (moved).
use Rattle.std.proofs.Common.{◌≡◌, ◌∙◌, refl, sym, ap, subst, Bool, true, false, cond, not, ◌||◌, ◌&&◌, List, [], ◌∷◌, ◌++◌, inl, inr}
use Rattle.std.proofs.Math.Bool.{or-false, or-true}
use Rattle.std.proofs.lemmas.Bool.{and_parts, cases_Bool}
use Rattle.std.proofs.lemmas.List.Elements.{filter-append}
use Rattle.std.proofs.lemmas.Map.Text.{is_eq-slice_cmp}
use Rattle.std.specs.Cmp.{Equal-is}
use Rattle.std.specs.List.{AllByRecursion, IsDistinct, filter, list_any}
use Rattle.std.specs.List.Sorted.{IsStrictlySortedBy}
use Rattle.std.specs.Ordering.{eq_by_cmp, is_eq, is_gt, is_lt, ordering_reverse}
use Rattle.std.specs.Str.{bytes_eq}
use Rattle.std.specs.declared.cmp.Ordering.{Ordering}
use Rattle.std.specs.declared.cmp.Ordering.TheVariants.{Less, Equal, Greater}
use Rattle.ifmap_lemmas.specs.Filtered.{filter_agrees, filter_turned}
use Rattle.ifmap_lemmas.specs.Filters.{all_filter, all_weaker, filter_all, filter_none, filter_twice}
use Rattle.ifmap_lemmas.specs.Having.{Has, all_has, any_has, filter_has, has_any, has_filter}
use Rattle.ifmap_lemmas.specs.Inserted.{one_of_key}
use Rattle.ifmap_lemmas.specs.Orderings.{greater_reversed, is_greater, less_differs}
use Rattle.ifmap_lemmas.specs.Rising.{tied_same}
use Rattle.ifmap_meta.specs.declared.stored.Stored.{Stored}
use Rattle.ifmap_meta.specs.Keys.{same_key}
use Rattle.ifmap_rows.specs.ifmap_plans.Lists.{is_among, list_without, put_each, same_life, same_stored, stored_difference}
use Rattle.ifmap_rows.specs.ifmap_plans.Placing.{put}
use Rattle.ifmap_rows.specs.ifmap_plans.laws.KeyLaws.{stored_equiv, stored_total}
use Rattle.ifmap_rows.specs.ifmap_plans.laws.PlacingLaws.{put_less}
use Rattle.ifmap_view.specs.Attachments.{stored_bytes, stored_order}
use Rattle.ifmap_publish.proofs.Differing.{AllAbove, itself, none_tied, put_below, put_past, sorted_first, less_is_greater}
use Rattle.ifmap_publish.proofs.Same.{same_itself}

-- ---- members that tie

-- where one of a list has a key, that of the key is that of its place
pub keyed_ties : (row r : Stored) (xs : List Stored) → IsStrictlySortedBy stored_order xs → IsDistinct same_key xs → Has xs r
    → same_key row r ≡ true → (s : Stored) → Has xs s → eq_by_cmp stored_order r s ≡ same_key row s
keyed_ties row r xs up d h is s k = by (same_key row s) refl
  where
    by : (b : Bool) → same_key row s ≡ b → eq_by_cmp stored_order r s ≡ same_key row s
    by true e =
        let one : r ≡ s = one_of_key same_key stored_equiv xs r s d h k (sym (stored_equiv.congr row r s is) ∙ e) in
        ap is_eq (ap (stored_order r) (sym one) ∙ itself r) ∙ sym e
    by false e = at (stored_order r s) refl ∙ sym e
      where
        at : (o : Ordering) → stored_order r s ≡ o → is_eq (stored_order r s) ≡ false
        at Less t = ap is_eq t
        at Equal t =
            let one : r ≡ s = tied_same stored_order stored_total xs r s up h k t in
            let bad : true ≡ false = sym is ∙ ap (same_key row) one ∙ e in cc
        at Greater t = ap is_eq t

-- ---- what is among the members that a filter leaves

pub among_filter : (q : Stored → Bool) (xs : List Stored) → IsStrictlySortedBy stored_order xs → (s : Stored) → Has xs s
    → is_among (filter q xs) s ≡ q s
among_filter q [] up s h = absurd h
among_filter q (x ∷ xs) up s (inl e) =
    subst (λ y. is_among (filter q (x ∷ xs)) y ≡ q y) e (by (q x) refl)
  where
    by : (b : Bool) → q x ≡ b → is_among (filter q (x ∷ xs)) x ≡ q x
    by true t =
        ap (λ b. is_among (cond b (x ∷ filter q xs) (filter q xs)) x) t
        ∙ ap (λ o. is_eq o || is_among (filter q xs) x) (itself x) ∙ sym t
    by false t =
        ap (λ b. is_among (cond b (x ∷ filter q xs) (filter q xs)) x) t
        ∙ none_tied x (filter q xs) (all_filter (λ y. stored_order x y ≡ Less) q xs (sorted_first x xs up).0) ∙ sym t
among_filter q (x ∷ xs) up s (inr h) =
    let less : stored_order x s ≡ Less = all_has (λ y. stored_order x y ≡ Less) xs (sorted_first x xs up).0 s h in
    by (q x) less (among_filter q xs (sorted_first x xs up).1 s h)
  where
    by : (b : Bool) → stored_order x s ≡ Less → is_among (filter q xs) s ≡ q s
        → is_among (cond b (x ∷ filter q xs) (filter q xs)) s ≡ q s
    by true less rest = ap (λ o. is_eq o || is_among (filter q xs) s) less ∙ rest
    by false less rest = rest

-- ---- what is put

-- a member is put over itself
pub put_itself : (r : Stored) (xs : List Stored) → IsStrictlySortedBy stored_order xs → Has xs r → put stored_order r xs ≡ xs
put_itself r [] up h = absurd h
put_itself r (x ∷ xs) up (inl e) =
    subst (λ y. put stored_order y (x ∷ xs) ≡ x ∷ xs) e
    (ap (λ o. (cond (is_lt o) (x ∷ filter (λ y. is_lt (stored_order y x)) xs) (filter (λ y. is_lt (stored_order y x)) xs))
    ++ x ∷ (cond (is_gt o) (x ∷ filter (λ y. is_gt (stored_order y x)) xs) (filter (λ y. is_gt (stored_order y x)) xs))) (itself x)
    ∙ put_below x xs (sorted_first x xs up).0)
put_itself r (x ∷ xs) up (inr h) =
    let less : stored_order x r ≡ Less = all_has (λ y. stored_order x y ≡ Less) xs (sorted_first x xs up).0 r h in
    put_less Stored stored_order stored_total r x xs less ∙ ap (λ l. x ∷ l) (put_itself r xs (sorted_first x xs up).1 h)

not_tied : (q : Stored → Bool) (row : Stored) (s : Stored) (o : Ordering) → stored_order s row ≡ o → is_eq o ≡ false
    → (q s || eq_by_cmp stored_order row s) ≡ q s
not_tied q row s o is apart = by (stored_order row s) refl
  where
    by : (p : Ordering) → stored_order row s ≡ p → (q s || is_eq (stored_order row s)) ≡ q s
    by Less e = ap (λ c. q s || is_eq c) e ∙ or-false (q s)
    by Equal e =
        let bad : true ≡ false = sym (ap is_eq (stored_total.antisymm s row ∙ ap ordering_reverse e)) ∙ ap is_eq is ∙ apart in cc
    by Greater e = ap (λ c. q s || is_eq c) e ∙ or-false (q s)

module _ (q : Stored → Bool) (row : Stored) (xs : List Stored) where
  abbrev lower : List Stored
  lower = filter (λ y. is_lt (stored_order y row)) xs

  abbrev upper : List Stored
  upper = filter (λ y. is_gt (stored_order y row)) xs

  abbrev q2 : Stored → Bool
  q2 s = q s || eq_by_cmp stored_order row s

  lower_alike : (s : Stored) → Has lower s → q2 s ≡ q s
  lower_alike s h = not_tied q row s (stored_order s row) refl
      (less_differs (stored_order s row) (filter_has (λ y. is_lt (stored_order y row)) xs s h).1)

  upper_alike : (s : Stored) → Has upper s → q2 s ≡ q s
  upper_alike s h = not_tied q row s (stored_order s row) refl
      (ap is_eq (is_greater (stored_order s row) (filter_has (λ y. is_gt (stored_order y row)) xs s h).1))

  own : q2 row ≡ true
  own = ap (λ o. q row || is_eq o) (itself row) ∙ or-true (q row)

  -- those that pass, or are put
  pub put_filtered : filter q2 (put stored_order row xs) ≡ put stored_order row (filter q xs)
  put_filtered =
      filter-append q2 lower (row ∷ upper)
      ∙ ap (λ b. filter q2 lower ++ cond b (row ∷ filter q2 upper) (filter q2 upper)) own
      ∙ ap (λ l. l ++ row ∷ filter q2 upper)
      (filter_agrees q2 q lower lower_alike ∙ filter_turned q (λ y. is_lt (stored_order y row)) xs)
      ∙ ap (λ l. filter (λ y. is_lt (stored_order y row)) (filter q xs) ++ row ∷ l)
      (filter_agrees q2 q upper upper_alike ∙ filter_turned q (λ y. is_gt (stored_order y row)) xs)

  -- those that neither pass nor are put
  pub put_unfiltered : filter (λ s. not (q2 s)) (put stored_order row xs) ≡ filter (λ s. not (q s)) (lower ++ upper)
  put_unfiltered =
      filter-append (λ s. not (q2 s)) lower (row ∷ upper)
      ∙ ap (λ b. filter (λ s. not (q2 s)) lower
      ++ cond (not b) (row ∷ filter (λ s. not (q2 s)) upper) (filter (λ s. not (q2 s)) upper)) own
      ∙ ap (λ l. l ++ filter (λ s. not (q2 s)) upper)
      (filter_agrees (λ s. not (q2 s)) (λ s. not (q s)) lower (λ s h. ap not (lower_alike s h)))
      ∙ ap (λ l. filter (λ s. not (q s)) lower ++ l)
      (filter_agrees (λ s. not (q2 s)) (λ s. not (q s)) upper (λ s h. ap not (upper_alike s h)))
      ∙ sym (filter-append (λ s. not (q s)) lower upper)

-- where none ties, all are below or above
pub parts_join : (row : Stored) (xs : List Stored) → IsStrictlySortedBy stored_order xs
    → AllByRecursion (λ s. is_eq (stored_order s row) ≡ false) xs
    → filter (λ y. is_lt (stored_order y row)) xs ++ filter (λ y. is_gt (stored_order y row)) xs ≡ xs
parts_join row [] up apart = refl
parts_join row (x ∷ xs) up apart = by (stored_order x row) refl (parts_join row xs (sorted_first x xs up).1 apart.1)
  where
    greater : stored_order x row ≡ Greater → (y : Stored) → stored_order x y ≡ Less → stored_order y row ≡ Greater
    greater e y l = less_is_greater row y (stored_total.trans row x y (greater_reversed stored_total x row e) l)

    above : stored_order x row ≡ Greater → AllByRecursion (λ y. stored_order y row ≡ Greater) xs
    above e = all_weaker (λ y. stored_order x y ≡ Less) (λ y. stored_order y row ≡ Greater) (λ y l. greater e y l) xs
        (sorted_first x xs up).0

    by : (o : Ordering) → stored_order x row ≡ o
        → filter (λ y. is_lt (stored_order y row)) xs ++ filter (λ y. is_gt (stored_order y row)) xs ≡ xs
        → filter (λ y. is_lt (stored_order y row)) (x ∷ xs) ++ filter (λ y. is_gt (stored_order y row)) (x ∷ xs) ≡ x ∷ xs
    by Less e rest = rw e (ap (λ l. x ∷ l) rest)
    by Equal e rest = let bad : true ≡ false = sym (ap is_eq e) ∙ apart.0 in cc
    by Greater e rest =
        rw e (
        ap (λ l. l ++ x ∷ filter (λ y. is_gt (stored_order y row)) xs)
        (filter_none (λ y. is_lt (stored_order y row)) xs (all_weaker (λ y. stored_order y row ≡ Greater)
        (λ y. is_lt (stored_order y row) ≡ false) (λ y g. ap is_lt g) xs (above e)))
        ∙ ap (λ l. x ∷ l)
        (filter_all (λ y. is_gt (stored_order y row)) xs (all_weaker (λ y. stored_order y row ≡ Greater)
        (λ y. is_gt (stored_order y row) ≡ true) (λ y g. ap is_gt g) xs (above e)))
        )

-- what passes, put on what does not, is all
pub put_back : (q : Stored → Bool) (xs : List Stored) → IsStrictlySortedBy stored_order xs
    → put_each (filter q xs) (filter (λ s. not (q s)) xs) ≡ xs
put_back q [] up = refl
put_back q (x ∷ xs) up =
    let over = (sorted_first x xs up).0 in
    by (q x) over (put_back q xs (sorted_first x xs up).1)
  where
    by : (b : Bool) → AllAbove x xs → put_each (filter q xs) (filter (λ s. not (q s)) xs) ≡ xs
        → put_each (cond b (x ∷ filter q xs) (filter q xs)) (cond (not b) (x ∷ filter (λ s. not (q s)) xs) (filter (λ s. not (q s)) xs))
        ≡ x ∷ xs
    by true over rest =
        ap (put_each (filter q xs)) (put_below x (filter (λ s. not (q s)) xs)
        (all_filter (λ y. stored_order x y ≡ Less) (λ s. not (q s)) xs over))
        ∙ put_past x (filter q xs) (filter (λ s. not (q s)) xs) (all_filter (λ y. stored_order x y ≡ Less) q xs over)
        ∙ ap (λ l. x ∷ l) rest
    by false over rest =
        put_past x (filter q xs) (filter (λ s. not (q s)) xs) (all_filter (λ y. stored_order x y ≡ Less) q xs over)
        ∙ ap (λ l. x ∷ l) rest

-- ---- what two lists have beside what stays in both

same_ties : (a b : Stored) → same_stored a b ≡ true → stored_order a b ≡ Equal
same_ties a b e =
    let parts = and_parts (bytes_eq (stored_bytes a) (stored_bytes b) && bytes_eq a.publisher b.publisher) (same_life a.life b.life) e in
    let texts = and_parts (bytes_eq (stored_bytes a) (stored_bytes b)) (bytes_eq a.publisher b.publisher) parts.0 in
    (Equal-is (stored_order a b)).0 (is_eq-slice_cmp (stored_bytes a) (stored_bytes b) ∙ texts.0)

module _ (xs ys xt yt : List Stored) (up : IsStrictlySortedBy stored_order xs) (left : xt ≡ filter (is_among xt) xs)
    (right : yt ≡ filter (is_among yt) ys) (stays : list_without xt xs ≡ list_without yt ys) where
  -- one that stays is in both
  stays_in_both : (s : Stored) → Has xs s → is_among xt s ≡ false → Has ys s
  stays_in_both s h e =
      (filter_has (λ t. not (is_among yt t)) ys s
      (subst (λ l. Has l s) stays (has_filter (λ t. not (is_among xt t)) xs s h (ap not e)))).0

  came : (s t : Stored) → Has xs s → is_among xt s ≡ true → Has ys t → same_stored s t ≡ true → Has yt t
  came s t h e k same = by (is_among yt t) refl
    where
      by : (b : Bool) → is_among yt t ≡ b → Has yt t
      by true a = subst (λ l. Has l t) (sym right) (has_filter (is_among yt) ys t k a)
      by false a =
          let back = filter_has (λ u. not (is_among xt u)) xs t
          (subst (λ l. Has l t) (sym stays) (has_filter (λ u. not (is_among yt u)) ys t k (ap not a))) in
          let one : s ≡ t = tied_same stored_order stored_total xs s t up h back.0 (same_ties s t same) in
          let bad : not true ≡ true = ap not (sym e ∙ ap (is_among xt) one) ∙ back.1 in cc

  found_either : (s : Stored) → Has xs s → is_among xt s ≡ true → list_any (same_stored s) ys ≡ list_any (same_stored s) yt
  found_either s h e = by (list_any (same_stored s) yt) refl
    where
      by : (b : Bool) → list_any (same_stored s) yt ≡ b → list_any (same_stored s) ys ≡ list_any (same_stored s) yt
      by true a =
          let t = any_has (same_stored s) yt a in
          has_any (same_stored s) ys t.0 (filter_has (is_among yt) ys t.0 (subst (λ l. Has l t.0) right t.1)).0 t.2 ∙ sym a
      by false a = elim (cases_Bool (list_any (same_stored s) ys)) [
        | inl b ↦
            let t = any_has (same_stored s) ys b in
            let bad : true ≡ false = sym (has_any (same_stored s) yt t.0 (came s t.0 h e t.1 t.2) t.2) ∙ a in cc
        | inr b ↦ b ∙ sym a
      ]

  told_alike : (s : Stored) → Has xs s
      → (is_among xt s && not (list_any (same_stored s) yt)) ≡ not (list_any (same_stored s) ys)
  told_alike s h = by (is_among xt s) refl
    where
      by : (b : Bool) → is_among xt s ≡ b → (b && not (list_any (same_stored s) yt)) ≡ not (list_any (same_stored s) ys)
      by true e = ap not (sym (found_either s h e))
      by false e = sym (ap not (has_any (same_stored s) ys s (stays_in_both s h e) (same_itself s)))

  pub difference_stays : stored_difference xt yt ≡ stored_difference xs ys
  difference_stays =
      ap (λ l. stored_difference l yt) left
      ∙ filter_twice (is_among xt) (λ s. not (list_any (same_stored s) yt)) xs
      ∙ filter_agrees (λ s. is_among xt s && not (list_any (same_stored s) yt)) (λ s. not (list_any (same_stored s) ys)) xs told_alike
