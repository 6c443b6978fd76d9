-- The differences of two lists that rise, and that taking the one and putting the other makes the one list of the other.
use Rattle.std.proofs.Common.{◌≡◌, ◌∙◌, refl, ap, Bool, true, false, cond, not, ◌||◌, List, [], ◌∷◌}
use Rattle.std.specs.Cmp.{tied_itself}
use Rattle.std.specs.List.{AllByRecursion, list_any}
use Rattle.std.specs.List.Sorted.{IsStrictlySortedBy}
use Rattle.std.specs.Ordering.{eq_by_cmp, is_eq, ordering_reverse}
use Rattle.std.specs.declared.cmp.Ordering.{Ordering}
use Rattle.std.specs.declared.cmp.Ordering.TheVariants.{Less, Equal, Greater}
use Rattle.ifmap_lemmas.specs.Filters.{all_filter, all_weaker, filter_alike, filter_all}
use Rattle.ifmap_lemmas.specs.Orderings.{less_reversed}
use Rattle.ifmap_meta.specs.declared.stored.Stored.{Stored}
use Rattle.ifmap_meta.specs.Whole.{IsWhole}
use Rattle.ifmap_rows.specs.ifmap_plans.Lists.{stored_difference, next_on, put_each, same_stored, list_without}
use Rattle.ifmap_rows.specs.ifmap_plans.Placing.{put}
use Rattle.ifmap_rows.specs.ifmap_plans.laws.KeyLaws.{stored_total}
use Rattle.ifmap_rows.specs.ifmap_plans.laws.PlacingLaws.{put_front, put_less}
use Rattle.ifmap_view.specs.Attachments.{stored_order}
use Rattle.ifmap_publish.proofs.Same.{greater_differs, less_differs, same_is, same_turned}

-- all of a list are above one, or below it
abbrev pub AllAbove : Stored → List Stored → Type 0
AllAbove s xs = AllByRecursion (λ y. stored_order s y ≡ Less) xs

pub sorted_first : (s : Stored) (xs : List Stored) → IsStrictlySortedBy stored_order (s ∷ xs) → AllAbove s xs
    × IsStrictlySortedBy stored_order xs
unfolding IsStrictlySortedBy
sorted_first s xs up = up

pub less_is_greater : (a b : Stored) → stored_order a b ≡ Less → stored_order b a ≡ Greater
less_is_greater a b e = less_reversed stored_total a b e

pub above_above : (a b : Stored) (xs : List Stored) → stored_order a b ≡ Less → AllAbove b xs → AllAbove a xs
above_above a b xs e all = all_weaker (λ y. stored_order b y ≡ Less) (λ y. stored_order a y ≡ Less)
    (λ y l. stored_total.trans a b y e l) xs all

pub above_tied : (a b : Stored) (xs : List Stored) → stored_order a b ≡ Equal → AllAbove b xs → AllAbove a xs
above_tied a b xs e all = all_weaker (λ y. stored_order b y ≡ Less) (λ y. stored_order a y ≡ Less)
    (λ y l. stored_total.congr a b y e ∙ l) xs all

pub none_same : (s : Stored) (xs : List Stored) → AllAbove s xs → list_any (same_stored s) xs ≡ false
none_same s [] all = refl
none_same s (x ∷ xs) all = ap (λ b. b || list_any (same_stored s) xs) (less_differs s x all.0) ∙ none_same s xs all.1

-- one that is below all of the first list is passed over
pub other_passed : (o : Stored) (os xs : List Stored) → AllAbove o xs → stored_difference xs (o ∷ os) ≡ stored_difference xs os
other_passed o os xs all =
    filter_alike (λ s. not (list_any (same_stored s) (o ∷ os))) (λ s. not (list_any (same_stored s) os)) xs
    (all_weaker (λ y. stored_order o y ≡ Less) (λ s. not (list_any (same_stored s) (o ∷ os)) ≡ not (list_any (same_stored s) os))
    (λ s l. ap (λ b. not (b || list_any (same_stored s) os)) (greater_differs s o (less_is_greater o s l))) xs all)

-- one that is below all of the other list is in the difference
pub first_kept : (o : Stored) (os ns : List Stored) → AllAbove o ns → stored_difference (o ∷ os) ns ≡ o ∷ stored_difference os ns
first_kept o os ns all = ap (λ b. cond (not b) (o ∷ stored_difference os ns) (stored_difference os ns)) (none_same o ns all)

-- where both first ones tie
tied_first : (o n : Stored) (os ns : List Stored) (b : Bool) → same_stored o n ≡ b → AllAbove o ns → AllAbove n os
    → stored_difference (o ∷ os) (n ∷ ns) ≡ cond b (stored_difference os ns) (o ∷ stored_difference os ns)
tied_first o n os ns true e up over =
    ap (λ b. cond (not (b || list_any (same_stored o) ns)) (o ∷ stored_difference os (n ∷ ns)) (stored_difference os (n ∷ ns))) e
    ∙ other_passed n ns os over
tied_first o n os ns false e up over =
    ap (λ b. cond (not (b || list_any (same_stored o) ns)) (o ∷ stored_difference os (n ∷ ns)) (stored_difference os (n ∷ ns))) e
    ∙ ap (λ b. cond (not b) (o ∷ stored_difference os (n ∷ ns)) (stored_difference os (n ∷ ns))) (none_same o ns up)
    ∙ ap (λ xs. o ∷ xs) (other_passed n ns os over)

pub itself : (s : Stored) → stored_order s s ≡ Equal
itself s = tied_itself stored_total s

-- the first goes, with those that go after it
first_gone : (o : Stored) (gone os : List Stored) → AllAbove o os → list_without (o ∷ gone) (o ∷ os) ≡ list_without gone os
first_gone o gone os all =
    ap (λ c. cond (not (is_eq c || list_any (λ r. eq_by_cmp stored_order r o) gone)) (o ∷ list_without (o ∷ gone) os)
    (list_without (o ∷ gone) os))
    (itself o)
    ∙ filter_alike (λ s. not (list_any (λ r. eq_by_cmp stored_order r s) (o ∷ gone)))
    (λ s. not (list_any (λ r. eq_by_cmp stored_order r s) gone)) os
    (all_weaker (λ y. stored_order o y ≡ Less)
    (λ s. not (list_any (λ r. eq_by_cmp stored_order r s) (o ∷ gone)) ≡ not (list_any (λ r. eq_by_cmp stored_order r s) gone))
    (λ s l. ap (λ c. not (is_eq c || list_any (λ r. eq_by_cmp stored_order r s) gone)) l) os all)

pub none_tied : (o : Stored) (gone : List Stored) → AllAbove o gone → list_any (λ r. eq_by_cmp stored_order r o) gone ≡ false
none_tied o [] all = refl
none_tied o (g ∷ gone) all =
    ap (λ c. is_eq c || list_any (λ r. eq_by_cmp stored_order r o) gone) (less_is_greater o g all.0) ∙ none_tied o gone all.1

-- the first stays where all that go are above it
first_stays : (o : Stored) (gone os : List Stored) → AllAbove o gone → list_without gone (o ∷ os) ≡ o ∷ list_without gone os
first_stays o gone os all = ap (λ b. cond (not b) (o ∷ list_without gone os) (list_without gone os)) (none_tied o gone all)

-- what is put in above the first
pub put_past : (x : Stored) (added list : List Stored) → AllAbove x added → put_each added (x ∷ list) ≡ x ∷ put_each added list
put_past x [] list all = refl
put_past x (y ∷ ys) list all = ap (put_each ys) (put_less Stored stored_order stored_total y x list all.0)
    ∙ put_past x ys (put stored_order y list) all.1

pub put_below : (n : Stored) (base : List Stored) → AllAbove n base → put stored_order n base ≡ n ∷ base
put_below n base all = put_front Stored stored_order stored_total n base
    (all_weaker (λ y. stored_order n y ≡ Less) (λ y. stored_order y n ≡ Greater) (λ y l. less_is_greater n y l) base all)

put_all : (ns : List Stored) → IsStrictlySortedBy stored_order ns → put_each ns [] ≡ ns
put_all [] up = refl
put_all (n ∷ ns) up =
    let parts = sorted_first n ns up in
    put_past n ns [] parts.0 ∙ ap (λ xs. n ∷ xs) (put_all ns parts.1)

all_new : (ns : List Stored) → stored_difference ns [] ≡ ns
all_new ns = filter_all (λ s. not (list_any (same_stored s) [])) ns (every ns)
  where
    every : (xs : List Stored) → AllByRecursion (λ s. not (list_any (same_stored s) []) ≡ true) xs
    every [] = tt
    every (x ∷ xs) = (refl, every xs)

abbrev pub AreSame : List Stored → List Stored → Type 0
AreSame old new = next_on (stored_difference old new) (stored_difference new old) old ≡ new

-- one step of a walk over both lists
module _ (o n : Stored) (os ns : List Stored) (over : AllAbove o os) (up : AllAbove n ns) where
  below : stored_order o n ≡ Less → AreSame os (n ∷ ns) → AreSame (o ∷ os) (n ∷ ns)
  below e rest =
      let all : AllAbove o (n ∷ ns) = (e, above_above o n ns e up) in
      ap (λ d. next_on d (stored_difference (n ∷ ns) (o ∷ os)) (o ∷ os)) (first_kept o os (n ∷ ns) all)
      ∙ ap (λ a. next_on (o ∷ stored_difference os (n ∷ ns)) a (o ∷ os)) (other_passed o os (n ∷ ns) all)
      ∙ ap (put_each (stored_difference (n ∷ ns) os)) (first_gone o (stored_difference os (n ∷ ns)) os over)
      ∙ rest

  above : stored_order n o ≡ Less → AreSame (o ∷ os) ns → AreSame (o ∷ os) (n ∷ ns)
  above e rest =
      let all : AllAbove n (o ∷ os) = (e, above_above n o os e over) in
      let gone = stored_difference (o ∷ os) ns in
      let base = list_without gone (o ∷ os) in
      ap (λ d. next_on d (stored_difference (n ∷ ns) (o ∷ os)) (o ∷ os)) (other_passed n ns (o ∷ os) all)
      ∙ ap (λ a. next_on gone a (o ∷ os)) (first_kept n ns (o ∷ os) all)
      ∙ ap (put_each (stored_difference ns (o ∷ os))) (put_below n base (all_filter (λ y. stored_order n y ≡ Less)
      (λ s. not (list_any (λ r. eq_by_cmp stored_order r s) gone)) (o ∷ os) all))
      ∙ put_past n (stored_difference ns (o ∷ os)) base (all_filter (λ y. stored_order n y ≡ Less)
      (λ s. not (list_any (same_stored s) (o ∷ os))) ns up)
      ∙ ap (λ xs. n ∷ xs) rest

  -- both tie, and are one or not
  ties_are_same : stored_order o n ≡ Equal → IsWhole o → IsWhole n → (b : Bool) → same_stored o n ≡ b → AreSame os ns
      → AreSame (o ∷ os) (n ∷ ns)
  ties_are_same e v w b is rest =
      let back : stored_order n o ≡ Equal = stored_total.antisymm n o ∙ ap ordering_reverse e in
      let ns_over : AllAbove o ns = above_tied o n ns e up in
      let os_over : AllAbove n os = above_tied n o os back over in
      let gone = stored_difference os ns in
      let come = stored_difference ns os in
      ap (λ d. next_on d (stored_difference (n ∷ ns) (o ∷ os)) (o ∷ os)) (tied_first o n os ns b is ns_over os_over)
      ∙ ap (λ a. next_on (cond b gone (o ∷ gone)) a (o ∷ os)) (tied_first n o ns os b (same_turned n o ∙ is) os_over ns_over)
      ∙ by b is ns_over os_over
    where
      by : (b : Bool) → same_stored o n ≡ b → AllAbove o ns → AllAbove n os
          → next_on (cond b (stored_difference os ns) (o ∷ stored_difference os ns)) (cond b (stored_difference ns os) (n ∷
          stored_difference ns os)) (o ∷ os) ≡ n ∷ ns
      by true is ns_over os_over =
          ap (put_each (stored_difference ns os)) (first_stays o (stored_difference os ns) os (all_filter (λ y. stored_order o y ≡ Less)
          (λ s. not (list_any (same_stored s) ns)) os over))
          ∙ put_past o (stored_difference ns os) (list_without (stored_difference os ns) os) (all_filter (λ y. stored_order o y ≡ Less)
          (λ s. not (list_any (same_stored s) os)) ns ns_over)
          ∙ ap (λ x. x ∷ put_each (stored_difference ns os) (list_without (stored_difference os ns) os)) (same_is o n v w is)
          ∙ ap (λ xs. n ∷ xs) rest
      by false is ns_over os_over =
          ap (λ l. put_each (stored_difference ns os) (put stored_order n l)) (first_gone o (stored_difference os ns) os over)
          ∙ ap (put_each (stored_difference ns os)) (put_below n (list_without (stored_difference os ns) os)
          (all_filter (λ y. stored_order n y ≡ Less)
          (λ s. not (list_any (λ r. eq_by_cmp stored_order r s) (stored_difference os ns))) os os_over))
          ∙ put_past n (stored_difference ns os) (list_without (stored_difference os ns) os) (all_filter (λ y. stored_order n y ≡ Less)
          (λ s. not (list_any (same_stored s) os)) ns up)
          ∙ ap (λ xs. n ∷ xs) rest

-- taking what goes and putting what comes makes the one list of the other
pub differences_make : (old new : List Stored) → IsStrictlySortedBy stored_order old → IsStrictlySortedBy stored_order new
    → AllByRecursion IsWhole old → AllByRecursion IsWhole new → AreSame old new
differences_make [] new over up v w = ap (λ a. put_each a []) (all_new new) ∙ put_all new up
differences_make (o ∷ os) new over up v w = walk new up w (λ ns s t. differences_make os ns (sorted_first o os over).1 s v.1 t)
  where
    walk : (new : List Stored) → IsStrictlySortedBy stored_order new → AllByRecursion IsWhole new
        → ((ns : List Stored) → IsStrictlySortedBy stored_order ns → AllByRecursion IsWhole ns → AreSame os ns) → AreSame (o ∷ os) new
    walk [] up w later = none_left (o ∷ os) over
      where
        none_left : (xs : List Stored) → IsStrictlySortedBy stored_order xs → AreSame xs []
        none_left [] s = refl
        none_left (x ∷ xs) s =
            ap (λ d. list_without d (x ∷ xs)) (first_kept x xs [] tt)
            ∙ first_gone x (stored_difference xs []) xs (sorted_first x xs s).0
            ∙ none_left xs (sorted_first x xs s).1
    walk (n ∷ ns) up w later =
        at (stored_order o n) refl (sorted_first n ns up).0 (later (n ∷ ns) up w) (later ns (sorted_first n ns up).1 w.1)
        (walk ns (sorted_first n ns up).1 w.1 later)
      where
        at : (c : Ordering) → stored_order o n ≡ c → AllAbove n ns → AreSame os (n ∷ ns) → AreSame os ns → AreSame (o ∷ os) ns
            → AreSame (o ∷ os) (n ∷ ns)
        at Less e all both tail mine = below o n os ns (sorted_first o os over).0 all e both
        at Equal e all both tail mine = ties_are_same o n os ns (sorted_first o os over).0 all e v.0 w.0 (same_stored o n) refl tail
        at Greater e all both tail mine =
            above o n os ns (sorted_first o os over).0 all (stored_total.antisymm n o ∙ ap ordering_reverse e) mine
