-- The changes of items on which something goes or comes.
-- The plan: of entries whose keys rise, each is found by its key; the difference that each tells makes its list of what stands there
-- (made), so each change is one and the items are apart (are_changes, items_apart); what is to stand on an item after all is the list of
-- its entry, or what stands there (changed, is_after); the code appends a change where something goes or comes (none_added, one_added,
-- and the three by which of both is empty); at last the same of edits, by the lists that they mean (listed_sound to edits_are_exact).
use Rattle.std.proofs.Common.{◌≡◌, ◌≢◌, ◌∙◌, refl, sym, ap, subst, Bool, true, false, cond, not, List, [], ◌∷◌, ◌++◌, ◌==◌, arith, length}
use Rattle.std.proofs.Common.{map, Option, Some, None, inl, inr}
use Rattle.std.proofs.lemmas.Bool.{cases_Bool}
use Rattle.std.proofs.lemmas.List.{append-nil}
use Rattle.std.proofs.lemmas.List.Kept.{IsStrictlySortedBy-filter}
use Rattle.std.specs.BTreeMap.{is_at}
use Rattle.std.specs.List.{AllByRecursion, IsDistinct, filter, list_any}
use Rattle.std.specs.List.Sorted.{IsStrictlySortedBy}
use Rattle.std.specs.Map.{keys_of, lookup}
use Rattle.std.specs.Ordering.{is_eq}
use Rattle.std.specs.declared.cmp.Ordering.TheVariants.{Less}
use Rattle.ifmap_ident.specs.declared.items.Item.{Item}
use Rattle.ifmap_ident.specs.Items.{IsCanonItem, item_order, same_item, items_tie}
use Rattle.ifmap_lemmas.specs.Filters.{all_filter, all_weaker}
use Rattle.ifmap_lemmas.specs.Having.{Has, filter_has}
use Rattle.ifmap_lemmas.specs.Numbers.{equal_numbers}
use Rattle.ifmap_lemmas.specs.Orderings.{less_reversed}
use Rattle.ifmap_meta.specs.declared.stored.Stored.{Stored}
use Rattle.ifmap_meta.specs.Whole.{IsWhole}
use Rattle.ifmap_rows.specs.ifmap_plans.declared.plans.ItemChange.{ItemChange}
use Rattle.ifmap_rows.specs.ifmap_plans.Lists.{IsList, stored_difference, next_on, same_stored}
use Rattle.ifmap_rows.specs.ifmap_plans.Plans.{AreExact, AreWhole, Fits, FitsItem, IsAfter, IsChange, change_of, list_after}
use Rattle.ifmap_view.specs.declared.attachments.Attachment.{Attachment}
use Rattle.ifmap_view.specs.Attachments.{IsGraph, stored_order}
use Rattle.ifmap_view.specs.Rows.{stored_on}
use Rattle.ifmap_publish.specs.declared.edits.Edit.{Edit}
use Rattle.ifmap_publish.specs.Working.{AreEdits, IsEntry, IsRising, IsSound, change_by, change_to, changes_by, changes_to, edit_or, kept_change, list_by, working_rows}
use Rattle.ifmap_publish.proofs.Differing.{differences_make}
use Rattle.ifmap_publish.proofs.Editing.{added_is, nothing_moved, put_sound, removed_is, taken_rises}
use Rattle.ifmap_publish.proofs.Entries.{stored_alike}
use Rattle.ifmap_publish.proofs.Graphs.{sound_on}
use Rattle.ifmap_ident.specs.SameLaws.{less_item_differs, items_equiv, items_total}

abbrev Entry : Type 0
Entry = Item × List Stored

-- the item is one that elements are, and its list is sound
pub record IsSoundEntry (e : Item × List Stored) : Type 0 where
  pub canon : IsCanonItem e.0
  pub sound : IsSound e.1

abbrev pub AreSound : List (Item × List Stored) → Type 0
AreSound entries = AllByRecursion IsSoundEntry entries

-- what is to stand on an item: the list that is made, or what stands there
abbrev pub list_or : Option (List Stored) → List Stored → List Stored
list_or None list = list
list_or (Some list) other = list

abbrev pub stored_by : List Attachment → (Item → Option (List Stored)) → Item → List Stored
stored_by rows made x = list_or (made x) (stored_on x rows)

abbrev AllOver : Item → List Entry → Type 0
AllOver k es = AllByRecursion (λ y. item_order k y ≡ Less) (keys_of es)

first_key : (e : Entry) (es : List Entry) → IsStrictlySortedBy item_order (keys_of (e ∷ es)) → AllOver e.0 es
    × IsStrictlySortedBy item_order (keys_of es)
unfolding IsStrictlySortedBy
first_key e es up = up

-- each entry is found by its key
found_first : (e : Entry) (es : List Entry) → lookup (is_at (item_order e.0)) (e ∷ es) ≡ Some e.1
found_first e es = ap (λ b. cond b (Some e.1) (lookup (is_at (item_order e.0)) es)) (sym (items_tie e.0 e.0) ∙ items_equiv.refl e.0)

found_later : (e : Entry) (es ys : List Entry) → AllOver e.0 ys
    → AllByRecursion (λ y. lookup (is_at (item_order y.0)) es ≡ Some y.1) ys
    → AllByRecursion (λ y. lookup (is_at (item_order y.0)) (e ∷ es) ≡ Some y.1) ys
found_later e es [] over all = tt
found_later e es (y ∷ ys) over all = (
  ap (λ o. cond (is_eq o) (Some e.1) (lookup (is_at (item_order y.0)) es)) (less_reversed items_total e.0 y.0 over.0)
      ∙ all.0,
  found_later e es ys over.1 all.1,
)

all_found : (es : List Entry) → IsStrictlySortedBy item_order (keys_of es)
    → AllByRecursion (λ y. lookup (is_at (item_order y.0)) es ≡ Some y.1) es
all_found [] up = tt
all_found (e ∷ es) up =
    let parts = first_key e es up in
    (found_first e es, found_later e es es parts.0 (all_found es parts.1))

module _ (rows : List Attachment) where
  -- what holds of each change holds of those that are kept
  all_kept : (P : ItemChange → Type 0) (es : List Entry) → AllByRecursion (λ e. P (change_to rows e)) es
      → AllByRecursion P (changes_to rows es)
  all_kept P [] all = tt
  all_kept P (e ∷ es) all = by ((change_to rows e).removed ++ (change_to rows e).added) (all_kept P es all.1)
    where
      by : (l : List Stored) → AllByRecursion P (changes_to rows es)
          → AllByRecursion P (kept_change (change_to rows e) l ++ changes_to rows es)
      by [] rest = rest
      by (s ∷ l) rest = (all.0, rest)

  -- and of their items
  all_items : (P : Item → Type 0) (es : List Entry) → AllByRecursion P (keys_of es)
      → AllByRecursion P (map (λ c. c.item) (changes_to rows es))
  all_items P [] all = tt
  all_items P (e ∷ es) all = by ((change_to rows e).removed ++ (change_to rows e).added) (all_items P es all.1)
    where
      by : (l : List Stored) → AllByRecursion P (map (λ c. c.item) (changes_to rows es))
          → AllByRecursion P (map (λ c. c.item) (kept_change (change_to rows e) l ++ changes_to rows es))
      by [] rest = rest
      by (s ∷ l) rest = (all.0, rest)

  pub items_apart : (es : List Entry) → IsStrictlySortedBy item_order (keys_of es)
      → IsDistinct same_item (map (λ c. c.item) (changes_to rows es))
  unfolding IsDistinct
  items_apart [] up = tt
  items_apart (e ∷ es) up =
      let parts = first_key e es up in
      by ((change_to rows e).removed ++ (change_to rows e).added)
      (all_items (λ y. same_item e.0 y ≡ false) es
      (all_weaker (λ y. item_order e.0 y ≡ Less) (λ y. same_item e.0 y ≡ false) (λ y l. less_item_differs e.0 y l) (keys_of es) parts.0))
      (items_apart es parts.1)
    where
      by : (l : List Stored) → AllByRecursion (λ y. same_item e.0 y ≡ false) (map (λ c. c.item) (changes_to rows es))
          → IsDistinct same_item (map (λ c. c.item) (changes_to rows es))
          → IsDistinct same_item (map (λ c. c.item) (kept_change (change_to rows e) l ++ changes_to rows es))
      by [] differ rest = rest
      by (s ∷ l) differ rest = (differ, rest)

  -- each kept change takes something or puts something
  pub are_changes : (es : List Entry) → AllByRecursion IsChange (changes_to rows es)
  are_changes [] = tt
  are_changes (e ∷ es) = by ((change_to rows e).removed ++ (change_to rows e).added) refl (are_changes es)
    where
      full : (l : List Stored) (s : Stored) (t : List Stored) → l ≡ s ∷ t → l ≢ []
      full [] s t is none = cc
      full (x ∷ xs) s t is none = cc

      by : (l : List Stored) → (change_to rows e).removed ++ (change_to rows e).added ≡ l → AllByRecursion IsChange (changes_to rows es)
          → AllByRecursion IsChange (kept_change (change_to rows e) l ++ changes_to rows es)
      by [] is rest = rest
      by (s ∷ l) is rest = (full ((change_to rows e).removed ++ (change_to rows e).added) s l is, rest)

  module _ (graph : IsGraph rows) (whole : AreWhole rows) where
    -- what comes is whole, and what goes is there

    have_all : (p : Stored → Bool) (xs : List Stored) → AllByRecursion (λ s. Has xs s) (filter p xs)
    have_all p xs = each (filter p xs) (λ s h. (filter_has p xs s h).0)
      where
        each : (ys : List Stored) → ((s : Stored) → Has ys s → Has xs s) → AllByRecursion (λ s. Has xs s) ys
        each [] h = tt
        each (y ∷ ys) h = (h y (inl refl), each ys (λ s q. h s (inr q)))

    made : (e : Entry) → IsSoundEntry e
        → next_on (stored_difference (stored_on e.0 rows) e.1) (stored_difference e.1 (stored_on e.0 rows)) (stored_on e.0 rows) ≡ e.1
    made e s =
        let there = sound_on e.0 rows graph whole in
        differences_make (stored_on e.0 rows) e.1 there.keyed.rising s.sound.keyed.rising there.whole s.sound.whole

    fits : (e : Entry) → IsSoundEntry e → FitsItem rows (change_to rows e)
    fits e s = record {
      canon = s.canon;
      order = IsStrictlySortedBy-filter stored_order (λ r. not (list_any (same_stored r) e.1)) (stored_on e.0 rows)
          (sound_on e.0 rows graph whole).keyed.rising;
      there = have_all (λ r. not (list_any (same_stored r) e.1)) (stored_on e.0 rows);
      whole = all_filter IsWhole (λ r. not (list_any (same_stored r) (stored_on e.0 rows))) e.1 s.sound.whole;
      list = subst IsList (sym (made e s)) s.sound.keyed;
    }

    pub all_fit : (es : List Entry) → AreSound es → IsStrictlySortedBy item_order (keys_of es) → Fits rows (changes_to rows es)
    all_fit es sound up = record {
      apart = items_apart es up;
      each = all_kept (FitsItem rows) es (all_weaker IsSoundEntry (λ e. FitsItem rows (change_to rows e)) fits es sound);
    }

    -- what is stored on an item after the changes
    nothing_found : (x : Item) (es : List Entry) → AllByRecursion (λ y. same_item y x ≡ false) (keys_of es)
        → change_of (changes_to rows es) x ≡ None
    nothing_found x es all = none (changes_to rows es) (all_items (λ y. same_item y x ≡ false) es all)
      where
        none : (cs : List ItemChange) → AllByRecursion (λ y. same_item y x ≡ false) (map (λ c. c.item) cs) → change_of cs x ≡ None
        none [] a = refl
        none (c ∷ cs) a = rw a.0 (none cs a.1)

    both_empty : (xs ys : List Stored) → xs ++ ys ≡ [] → (xs ≡ []) × (ys ≡ [])
    both_empty [] ys e = (refl, e)
    both_empty (x ∷ xs) ys e = cc

    pub list_after_changes : (x : Item) (es : List Entry) → AreSound es → IsStrictlySortedBy item_order (keys_of es)
        → list_after (change_of (changes_to rows es) x) (stored_on x rows)
        ≡ list_or (lookup (is_at (item_order x)) es) (stored_on x rows)
    list_after_changes x [] sound up = refl
    list_after_changes x (e ∷ es) sound up =
        let parts = first_key e es up in
        let rest = list_after_changes x es sound.1 parts.1 in
        elim (cases_Bool (same_item e.0 x)) [
          | inl is ↦
              let alike : stored_on x rows ≡ stored_on e.0 rows = stored_alike e.0 x is rows in
              let hit : lookup (is_at (item_order x)) (e ∷ es) ≡ Some e.1 =
              ap (λ b. cond b (Some e.1) (lookup (is_at (item_order x)) es)) (sym (items_tie x e.0) ∙ items_equiv.symm x e.0 ∙ is) in
              let others : AllByRecursion (λ y. same_item y x ≡ false) (keys_of es) =
              all_weaker (λ y. item_order e.0 y ≡ Less) (λ y. same_item y x ≡ false)
              (λ y l. items_equiv.symm y x ∙ sym (items_equiv.congr e.0 x y is) ∙ less_item_differs e.0 y l) (keys_of es) parts.0 in
              at ((change_to rows e).removed ++ (change_to rows e).added) refl is alike (nothing_found x es others)
              ∙ sym (ap (λ o. list_or o (stored_on x rows)) hit)
          | inr is ↦
              let miss : lookup (is_at (item_order x)) (e ∷ es) ≡ lookup (is_at (item_order x)) es =
              ap (λ b. cond b (Some e.1) (lookup (is_at (item_order x)) es)) (sym (items_tie x e.0) ∙ items_equiv.symm x e.0 ∙ is) in
              past ((change_to rows e).removed ++ (change_to rows e).added) is
              ∙ rest ∙ sym (ap (λ o. list_or o (stored_on x rows)) miss)
        ]
      where
        at : (l : List Stored) → (change_to rows e).removed ++ (change_to rows e).added ≡ l → same_item e.0 x ≡ true
            → stored_on x rows ≡ stored_on e.0 rows → change_of (changes_to rows es) x ≡ None
            → list_after (change_of (kept_change (change_to rows e) l ++ changes_to rows es) x) (stored_on x rows) ≡ e.1
        at [] is same alike none =
            let empty = both_empty (change_to rows e).removed (change_to rows e).added is in
            ap (λ o. list_after o (stored_on x rows)) none ∙ alike ∙ sym (nothing_moved (stored_on e.0 rows))
            ∙ (λ i. next_on (sym empty.0 i) (sym empty.1 i) (stored_on e.0 rows)) ∙ made e sound.0
        at (s ∷ l) is same alike none =
            ap (λ b. list_after (cond b (Some (change_to rows e)) (change_of (changes_to rows es) x)) (stored_on x rows)) same
            ∙ ap (next_on (change_to rows e).removed (change_to rows e).added) alike ∙ made e sound.0

        past : (l : List Stored) → same_item e.0 x ≡ false
            → list_after (change_of (kept_change (change_to rows e) l ++ changes_to rows es) x) (stored_on x rows)
            ≡ list_after (change_of (changes_to rows es) x) (stored_on x rows)
        past [] differ = refl
        past (s ∷ l) differ =
            ap (λ b. list_after (cond b (Some (change_to rows e)) (change_of (changes_to rows es) x)) (stored_on x rows)) differ

    -- the attachments after the changes, where the lists are what stands on each item
    module _ (after : List Attachment) (es : List Entry) (sound : AreSound es) (up : IsStrictlySortedBy item_order (keys_of es))
        (applied : (x : Item) → stored_by rows (λ q. lookup (is_at (item_order q)) es) x ≡ stored_on x after) where
      pub is_after : IsAfter (changes_to rows es) rows after
      is_after x = sym (applied x) ∙ sym (list_after_changes x es sound up)

      pub are_exact : AreExact rows after (changes_to rows es)
      are_exact = all_kept (λ c. (c.removed ≡ stored_difference (stored_on c.item rows) (stored_on c.item after))
          × (c.added ≡ stored_difference (stored_on c.item after) (stored_on c.item rows))) es
          (all_weaker (λ y. lookup (is_at (item_order y.0)) es ≡ Some y.1)
          (λ y. ((change_to rows y).removed ≡ stored_difference (stored_on y.0 rows) (stored_on y.0 after))
          × ((change_to rows y).added ≡ stored_difference (stored_on y.0 after) (stored_on y.0 rows))) exact es (all_found es up))
        where
          exact : (y : Entry) → lookup (is_at (item_order y.0)) es ≡ Some y.1
              → ((change_to rows y).removed ≡ stored_difference (stored_on y.0 rows) (stored_on y.0 after))
              × ((change_to rows y).added ≡ stored_difference (stored_on y.0 after) (stored_on y.0 rows))
          exact y hit =
              let is : y.1 ≡ stored_on y.0 after = ap (λ o. list_or o (stored_on y.0 rows)) (sym hit) ∙ applied y.0 in
              (ap (stored_difference (stored_on y.0 rows)) is, ap (λ l. stored_difference l (stored_on y.0 rows)) is)

pub difference_of : (one other taken put made : List Stored) → made ≡ stored_difference one other → one ≡ taken → other ≡ put
    → made ≡ stored_difference taken put
difference_of one other taken put made is p q = is ∙ (λ i. stored_difference (p i) (q i))

-- one change more, where something goes or comes
module _ (c : ItemChange) (removed added : List Stored) (made : List ItemChange) (gone : removed ≡ c.removed)
    (come : added ≡ c.added) where
  with_it : (r : List ItemChange) → ((d : ItemChange) → kept_change d (removed ++ added) ≡ r)
      → kept_change c (c.removed ++ c.added) ++ [] ≡ r
  with_it r is = append-nil (kept_change c (c.removed ++ c.added)) ∙ (λ i. kept_change c (sym gone i ++ sym come i)) ∙ is c

  pub none_added : ((d : ItemChange) → kept_change d (removed ++ added) ≡ [])
      → made ≡ made ++ (kept_change c (c.removed ++ c.added) ++ [])
  none_added is = sym (ap (λ l. made ++ l) (with_it [] is) ∙ append-nil made)

  pub one_added : ((d : ItemChange) → kept_change d (removed ++ added) ≡ d ∷ [])
      → made ++ record { item = c.item; removed = removed; added = added } ∷ [] ≡ made ++ (kept_change c (c.removed ++ c.added) ++ [])
  one_added is =
      (λ i. made ++ record { item = c.item; removed = gone i; added = come i } ∷ [])
      ∙ ap (λ l. made ++ l) (sym (
      append-nil (kept_change c (c.removed ++ c.added)) ∙ (λ i. kept_change c (sym gone i ++ sym come i)) ∙ is c
      ))

pub filled_first : (c : ItemChange) (xs ys : List Stored) → (length xs == 0) ≡ false → kept_change c (xs ++ ys) ≡ c ∷ []
filled_first c [] ys e = let q : true ≡ false = e in cc
filled_first c (x ∷ xs) ys e = refl

not_none : (x : Stored) (xs : List Stored) → (length (x ∷ xs) == 0) ≡ true → ⊥
not_none x xs e = let q = equal_numbers (length (x ∷ xs)) 0 e in omega (arith, q)

pub filled_second : (c : ItemChange) (xs ys : List Stored) → (length xs == 0) ≡ true → (length ys == 0) ≡ false
    → kept_change c (xs ++ ys) ≡ c ∷ []
filled_second c [] [] e f = let q : true ≡ false = f in cc
filled_second c [] (y ∷ ys) e f = refl
filled_second c (x ∷ xs) ys e f = absurd (not_none x xs e)

pub filled_not : (c : ItemChange) (xs ys : List Stored) → (length xs == 0) ≡ true → (length ys == 0) ≡ true
    → kept_change c (xs ++ ys) ≡ []
filled_not c [] [] e f = refl
filled_not c [] (y ∷ ys) e f = absurd (not_none y ys f)
filled_not c (x ∷ xs) ys e f = absurd (not_none x xs e)

-- ---- edits tell what their lists do

module _ (rows : List Attachment) where
  -- the lists that edits mean
  abbrev pub edit_entries : List (Item × Edit) → List Entry
  edit_entries es = map (λ e. (e.0, list_by e.1 (stored_on e.0 rows))) es

  listed_sound : (es : List (Item × Edit)) → AreEdits rows es → AreSound (edit_entries es)
  listed_sound [] all = tt
  listed_sound (e ∷ es) all = (record { canon = all.0.canon; sound = all.0.edit.sound }, listed_sound es all.1)

  keys : (es : List (Item × Edit)) → keys_of (edit_entries es) ≡ keys_of es
  keys [] = refl
  keys (e ∷ es) = ap (λ l. e.0 ∷ l) (keys es)

  listed_up : (es : List (Item × Edit)) → IsStrictlySortedBy item_order (keys_of es)
      → IsStrictlySortedBy item_order (keys_of (edit_entries es))
  listed_up es up = subst (IsStrictlySortedBy item_order) (sym (keys es)) up

  -- each item is found with its list
  listed_found : (x : Item) (es : List (Item × Edit))
      → stored_by rows (λ q. lookup (is_at (item_order q)) (edit_entries es)) x
      ≡ working_rows rows (λ q. lookup (is_at (item_order q)) es) x
  listed_found x [] = sym (nothing_moved (stored_on x rows))
  listed_found x (e ∷ es) = by (is_at (item_order x) e.0) refl (listed_found x es)
    where
      by : (b : Bool) → is_at (item_order x) e.0 ≡ b
          → stored_by rows (λ q. lookup (is_at (item_order q)) (edit_entries es)) x
          ≡ working_rows rows (λ q. lookup (is_at (item_order q)) es) x
          → list_or (cond b (Some (list_by e.1 (stored_on e.0 rows))) (lookup (is_at (item_order x)) (edit_entries es))) (stored_on x rows)
          ≡ list_by (edit_or (cond b (Some e.1) (lookup (is_at (item_order x)) es))) (stored_on x rows)
      by true is rest =
          ap (list_by e.1) (sym (stored_alike e.0 x (items_equiv.symm e.0 x ∙ items_tie x e.0 ∙ is) rows))
      by false is rest = rest

  listed_applied : (after : List Attachment) (es : List (Item × Edit))
      → ((x : Item) → working_rows rows (λ q. lookup (is_at (item_order q)) es) x ≡ stored_on x after)
      → (x : Item) → stored_by rows (λ q. lookup (is_at (item_order q)) (edit_entries es)) x ≡ stored_on x after
  listed_applied after es applied x = listed_found x es ∙ applied x

  module _ (graph : IsGraph rows) (whole : AreWhole rows) where
    change_is : (e : Item × Edit) → IsEntry rows e → change_by e ≡ change_to rows (e.0, list_by e.1 (stored_on e.0 rows))
    change_is e is =
        let stored = stored_on e.0 rows in
        let list = list_by e.1 stored in
        let gone = removed_is stored list e.1 (sound_on e.0 rows graph whole).keyed.rising is.edit in
        let come = added_is stored list e.1 is.edit in
        (λ i. record { item = e.0; removed = gone i; added = come i })

    listed_changes : (es : List (Item × Edit)) → AreEdits rows es → changes_by es ≡ changes_to rows (edit_entries es)
    listed_changes [] all = refl
    listed_changes (e ∷ es) all =
        let one = change_is e all.0 in
        (λ i. kept_change (one i) ((one i).removed ++ (one i).added) ++ listed_changes es all.1 i)

    -- what is taken and put stands in order
    pub all_rising : (es : List (Item × Edit)) → AreEdits rows es → AllByRecursion IsRising es
    all_rising [] all = tt
    all_rising (e ∷ es) all =
        let stored = stored_on e.0 rows in
        let list = list_by e.1 stored in (
          record {
            taken = taken_rises stored list e.1 (sound_on e.0 rows graph whole).keyed.rising all.0.edit;
            put = (put_sound stored list e.1 all.0.edit).keyed.rising;
          },
          all_rising es all.1,
        )

    -- so their changes lead from the rows to what they make
    module _ (es : List (Item × Edit)) (are : AreEdits rows es) (up : IsStrictlySortedBy item_order (keys_of es))
        (changes : List ItemChange) (made : changes ≡ changes_by es) where
      changes_are : changes ≡ changes_to rows (edit_entries es)
      changes_are = made ∙ listed_changes es are

      pub edits_fit : Fits rows changes
      edits_fit = subst (Fits rows) (sym changes_are) (all_fit rows graph whole (edit_entries es) (listed_sound es are) (listed_up es up))

      pub edits_are_changes : AllByRecursion IsChange changes
      edits_are_changes = subst (AllByRecursion IsChange) (sym changes_are) (are_changes rows (edit_entries es))

      module _ (after : List Attachment)
          (applied : (x : Item) → working_rows rows (λ q. lookup (is_at (item_order q)) es) x ≡ stored_on x after) where
        pub edits_lead : IsAfter changes rows after
        edits_lead =
            subst (λ told. IsAfter told rows after) (sym changes_are)
            (is_after rows graph whole after (edit_entries es) (listed_sound es are) (listed_up es up) (listed_applied after es applied))

        pub edits_are_exact : AreExact rows after changes
        edits_are_exact =
            subst (AreExact rows after) (sym changes_are)
            (are_exact rows graph whole after (edit_entries es) (listed_sound es are) (listed_up es up) (listed_applied after es applied))
