-- What of an item's rows a change can concern. In order: the row that is found is put among those that were found before
-- (`one_more`), or none is (`none_more`); what has the bytes of nothing that goes or comes stands on the item before and
-- afterwards (`stays_on`, `was_on`); so what is told of the item is among the rows that the change concerns (`goes_told`,
-- `comes_told`), and nothing is where the item has no change (`nothing_told`); rows that are shown are all of the item (`both_shown`).
use Rattle.std.proofs.Common.{◌≡◌, ◌≢◌, ◌⊎◌, inl, inr, Bool, true, false, cond, not, ◌&&◌, List, [], ◌∷◌, ◌++◌, map, Option}
use Rattle.std.proofs.Common.{refl, ap, ◌∙◌, sym, subst}
use Rattle.std.proofs.lemmas.Bool.{and_from, cases_Bool}
use Rattle.std.proofs.lemmas.Cmp.{eq_by_cmp_equiv}
use Rattle.std.proofs.lemmas.List.Kept.{IsStrictlySortedBy-filter}
use Rattle.std.specs.Cmp.{Equal-is}
use Rattle.std.specs.List.{list_any}
use Rattle.std.specs.List.Sorted.{IsStrictlySortedBy}
use Rattle.std.specs.Ordering.{eq_by_cmp}
use Rattle.ifmap_filter.specs.declared.filters.Filter.{Filter}
use Rattle.ifmap_filter.specs.Meets.{meets_optional}
use Rattle.ifmap_ident.specs.declared.items.Item.{Item}
use Rattle.ifmap_lemmas.specs.Filtered.{filter_through, none_left}
use Rattle.ifmap_lemmas.specs.Found.{fails_at, none_where_fails}
use Rattle.ifmap_lemmas.specs.Having.{Has, any_has, filter_has, has_any, has_either, has_filter, has_left, has_right}
use Rattle.ifmap_lemmas.specs.Rising.{rising_same, tied_same}
use Rattle.ifmap_meta.specs.declared.stored.Stored.{Stored}
use Rattle.ifmap_plans.specs.declared.plans.ItemChange.{ItemChange}
use Rattle.ifmap_plans.specs.Lists.{list_without, next_on, put_each}
use Rattle.ifmap_plans.specs.Placing.{put}
use Rattle.ifmap_plans.specs.Plans.{list_after}
use Rattle.ifmap_plans.specs.laws.KeyLaws.{stored_total}
use Rattle.ifmap_plans.specs.laws.PlacingLaws.{has_put, has_put_one, put_has, put_sorted}
use Rattle.ifmap_search.specs.declared.searches.Search.{Search}
use Rattle.ifmap_view.specs.declared.attachments.Attachment.{Attachment}
use Rattle.ifmap_view.specs.Attachments.{stored_order}
use Rattle.ifmap_view.specs.Rows.{stored_on}
use Rattle.ifmap_fresh.specs.Fresh.{is_looked_at}
use Rattle.ifmap_fresh.specs.Gathered.{stored_entry}
use Rattle.ifmap_delta.specs.Shown.{shown_on}
use Rattle.ifmap_delta.specs.Touched.{has_met, surplus, rows_touched_by}

abbrev tie : Stored → Stored → Bool
tie = eq_by_cmp stored_order

abbrev ties : List Stored → Stored → Bool
ties these t = list_any (λ r. tie r t) these

tie_turned : (a b : Stored) → tie a b ≡ tie b a
tie_turned a b = (eq_by_cmp_equiv stored_total).symm a b

tie_itself : (a : Stored) → tie a a ≡ true
tie_itself a = (eq_by_cmp_equiv stored_total).refl a

one_of_two : (rows : List Stored) → IsStrictlySortedBy stored_order rows → (x z : Stored) → Has rows x → Has rows z → tie x z ≡ true → x ≡ z
one_of_two rows up x z h k e = tied_same stored_order stored_total rows x z up h k ((Equal-is (stored_order x z)).0 e)

wider : (these : List Stored) (row z : Stored) → ties these z ≡ true → ties (these ++ row ∷ []) z ≡ true
wider these row z e =
    let r = any_has (λ r. tie r z) these e
    in has_any (λ r. tie r z) (these ++ row ∷ []) r.0 (has_left these (row ∷ []) r.0 r.1) r.2

last_ties : (these : List Stored) (row z : Stored) → tie row z ≡ true → ties (these ++ row ∷ []) z ≡ true
last_ties these row z e = has_any (λ r. tie r z) (these ++ row ∷ []) row (has_right these (row ∷ []) row (inl refl)) e

pub none_touched : (rows : List Stored) → rows_touched_by [] rows ≡ []
none_touched [] = refl
none_touched (row ∷ rows) = none_touched rows

which_ties : (these : List Stored) (row z : Stored) → ties (these ++ row ∷ []) z ≡ true → (ties these z ≡ true) ⊎ (tie row z ≡ true)
which_ties these row z e =
    let r = any_has (λ r. tie r z) (these ++ row ∷ []) e
    in elim (has_either these (row ∷ []) r.0 r.1) [
      | inl h ↦ inl (has_any (λ r. tie r z) these r.0 h r.2)
      | inr h ↦ elim h [
        | inl q ↦ inr (subst (λ r. tie r z ≡ true) (sym q) r.2)
        | inr n ↦ absurd n
      ]
    ]

module _ (rows these found : List Stored) (row : Stored) (up : IsStrictlySortedBy stored_order rows)
    (rises : IsStrictlySortedBy stored_order found) (is : found ≡ rows_touched_by these rows) where
  was_found : (z : Stored) → Has rows z → ties these z ≡ true → Has found z
  was_found z h e = subst (λ l. Has l z) (sym is) (has_filter (ties these) rows z h e)

  of_found : (z : Stored) → Has found z → Has (rows_touched_by (these ++ row ∷ []) rows) z
  of_found z h =
      let f = filter_has (ties these) rows z (subst (λ l. Has l z) is h)
      in has_filter (ties (these ++ row ∷ [])) rows z f.0 (wider these row z f.1)

  module _ (x : Stored) (there : Has rows x) (equal : tie x row ≡ true) where
    of_put : (z : Stored) → Has (put stored_order x found) z → Has (rows_touched_by (these ++ row ∷ []) rows) z
    of_put z h = elim (put_has Stored stored_order stored_total x found z h) [
      | inl e ↦ subst (λ y. Has (rows_touched_by (these ++ row ∷ []) rows) y) e
          (has_filter (ties (these ++ row ∷ [])) rows x there (last_ties these row x (tie_turned row x ∙ equal)))
      | inr k ↦ of_found z k.0
    ]

    is_put : (z : Stored) → x ≡ z → Has (put stored_order x found) z
    is_put z e = subst (λ y. Has (put stored_order x found) y) e (has_put_one Stored stored_order stored_total x found)

    to_put : (z : Stored) → Has (rows_touched_by (these ++ row ∷ []) rows) z → Has (put stored_order x found) z
    to_put z h =
        let f = filter_has (ties (these ++ row ∷ [])) rows z h
        in elim (which_ties these row z f.1) [
          | inl e ↦ elim (cases_Bool (tie z x)) [
            | inl t ↦ is_put z (one_of_two rows up x z there f.0 (tie_turned x z ∙ t))
            | inr t ↦ has_put Stored stored_order stored_total x found z (was_found z f.0 e) (tie_turned x z ∙ t)
          ]
          | inr e ↦ is_put z (one_of_two rows up x z there f.0 ((eq_by_cmp_equiv stored_total).congr x row z equal ∙ e))
        ]

    pub one_more : put stored_order x found ≡ rows_touched_by (these ++ row ∷ []) rows
    one_more = rising_same stored_order stored_total (put stored_order x found) (rows_touched_by (these ++ row ∷ []) rows)
        (put_sorted Stored stored_order stored_total x found rises)
        (IsStrictlySortedBy-filter stored_order (ties (these ++ row ∷ [])) rows up) of_put to_put

  pub none_more : list_any (λ o. tie o row) rows ≡ false → found ≡ rows_touched_by (these ++ row ∷ []) rows
  none_more none = rising_same stored_order stored_total found (rows_touched_by (these ++ row ∷ []) rows) rises
      (IsStrictlySortedBy-filter stored_order (ties (these ++ row ∷ [])) rows up) of_found
      (λ z h. let f = filter_has (ties (these ++ row ∷ [])) rows z h
      in elim (which_ties these row z f.1) [
        | inl e ↦ was_found z f.0 e
        | inr e ↦ let q : false ≡ true = sym none ∙ has_any (λ o. tie o row) rows z f.0 (tie_turned z row ∙ e) in cc
      ])

-- what ties with nothing that goes or comes
abbrev Aside : List Stored → Stored → Type 0
Aside these t = (r : Stored) → Has these r → tie r t ≡ false

stays_each : (added xs : List Stored) (t : Stored) → Aside added t → Has xs t → Has (put_each added xs) t
stays_each [] xs t n h = h
stays_each (a ∷ added) xs t n h =
    stays_each added (put stored_order a xs) t (λ r k. n r (inr k))
    (has_put Stored stored_order stored_total a xs t h (n a (inl refl)))

was_each : (added xs : List Stored) (t : Stored) → Aside added t → Has (put_each added xs) t → Has xs t
was_each [] xs t n h = h
was_each (a ∷ added) xs t n h =
    elim (put_has Stored stored_order stored_total a xs t (was_each added (put stored_order a xs) t (λ r k. n r (inr k)) h)) [
      | inl e ↦ let q : false ≡ true = sym (n a (inl refl)) ∙ subst (λ y. tie a y ≡ true) e (tie_itself a) in cc
      | inr k ↦ k.0
    ]

stays_on : (removed added xs : List Stored) (t : Stored) → Aside (removed ++ added) t → Has xs t → Has (next_on removed added xs) t
stays_on removed added xs t n h =
    stays_each added (list_without removed xs) t (λ r k. n r (has_right removed added r k))
    (has_filter (λ s. not (ties removed s)) xs t h
    (ap not (none_where_fails (λ r. tie r t) removed (λ r k. n r (has_left removed added r k)))))

was_on : (removed added xs : List Stored) (t : Stored) → Aside (removed ++ added) t → Has (next_on removed added xs) t → Has xs t
was_on removed added xs t n h =
    (filter_has (λ s. not (ties removed s)) xs t
    (was_each added (list_without removed xs) t (λ r k. n r (has_right removed added r k)) h)).0

passed_over : (m a : Bool) → (m ≡ true → a ≡ true) → (m && not a) ≡ false
passed_over false a f = refl
passed_over true a f = ap not (f refl)

module _ (filter_by : Option Filter) (x : Item) where
  abbrev is_surplus : List Stored → Stored → Bool
  is_surplus others t = meets_optional filter_by t.element && not (has_met filter_by others t)

  not_left : (others : List Stored) (t : Stored) → Has others t → is_surplus others t ≡ false
  not_left others t h = passed_over (meets_optional filter_by t.element) (has_met filter_by others t)
      (λ m. has_any (λ o. tie o t && meets_optional filter_by o.element) others t h
      (and_from (tie t t) (meets_optional filter_by t.element) (tie_itself t) m))

  all_told : (named these others : List Stored) → ((t : Stored) → Has these t → Aside named t → Has others t)
      → surplus filter_by x (rows_touched_by named these) others ≡ surplus filter_by x these others
  all_told named these others stays = ap (map (stored_entry x)) (filter_through (ties named) (is_surplus others) these
      (λ t h n. not_left others t (stays t h (λ r k. fails_at (λ r. tie r t) named r n k))))

  module _ (c : ItemChange) (was now : List Stored) (is : now ≡ next_on c.removed c.added was) where
    pub goes_told : surplus filter_by x (rows_touched_by (c.removed ++ c.added) was) now ≡ surplus filter_by x was now
    goes_told = all_told (c.removed ++ c.added) was now
        (λ t h n. subst (λ l. Has l t) (sym is) (stays_on c.removed c.added was t n h))

    pub comes_told : surplus filter_by x (rows_touched_by (c.removed ++ c.added) now) was ≡ surplus filter_by x now was
    comes_told = all_told (c.removed ++ c.added) now was
        (λ t h n. was_on c.removed c.added was t n (subst (λ l. Has l t) is h))

  pub nothing_told : (these others : List Stored) → these ≡ others → [] ≡ surplus filter_by x these others
  nothing_told these others e = sym (ap (map (stored_entry x)) (none_left (is_surplus others) these
      (λ t h. not_left others t (subst (λ l. Has l t) e h))))

shown_whole : (b : Bool) (xs : List Stored) → cond b xs [] ≢ [] → cond b xs [] ≡ xs
shown_whole true xs n = refl
shown_whole false xs n = absurd (n refl)

pub both_shown : (before after : List Attachment) (s t : Search) (x : Item) (change : Option ItemChange)
    → stored_on x after ≡ list_after change (stored_on x before) → shown_on before s x ≢ [] → shown_on after t x ≢ []
    → shown_on after t x ≡ list_after change (shown_on before s x)
both_shown before after s t x change is was now =
    shown_whole (is_looked_at after t x) (stored_on x after) now ∙ is
    ∙ ap (list_after change) (sym (shown_whole (is_looked_at before s x) (stored_on x before) was))
